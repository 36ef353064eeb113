use Rattle.std.proofs.Common.{◌∙◌, ◌||◌, sym, ap, refl, Some}
use Rattle.ledger_spec.specs.EutxoTypes.Parts.{same_ref}
use Rattle.chain_index.specs.Contents.{is_among}
use Rattle.chain_index.specs.LocksSupport.{refs_in}
use Rattle.chain_index.proofs.LockLemmas.{told_under, noted}
use Rattle.chain_index.proofs.by_lock.list_first.Goals as goal

pub returns-in-Ok-clause-ok : goal.returns-in-Ok-clause-ok
returns-in-Ok-clause-ok c =
    let w = c.note.new.set in
    told_under c.args.by_lock.now.entries c.insert.new.self.entries c.args.name (Some w) c.in-Ok.ensures.updates.0 (λ hit was. hit || was) c.args.reference (λ b. refl)
    (λ r. noted c.args.reference c.new-refs.result.keys w.keys c.in_ok-note.ensures.ok r
    ∙ ap (λ rs. same_ref c.args.reference r || is_among rs r) c.new-refs.ensures.empty
    ∙ ap (λ o. same_ref c.args.reference r || is_among (refs_in o) r) (sym c.requires))
