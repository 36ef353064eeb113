use Rattle.std.proofs.Common.{refl}
use Rattle.builder_spec.specs.EutxoTypes.contracts.output_ref.OutputRefPartialEq.TheImpl.{ghosts}
use Rattle.coin_selection.proofs.ListLaws.{agree, moved}
use Rattle.coin_selection.proofs.limits.put_new.Goals as goal

pub returns-clause-put : goal.returns-clause-put
returns-clause-put c = λ r.
    moved ghosts.eq (agree ghosts.eq (λ i j. refl) (λ n m i j. refl) (λ i j m. refl) (λ i j n. refl)) c.insert.new.self.keys c.args.set.now.keys c.args.reference r (c.in_ok-fresh.ensures.updates.0 r)
