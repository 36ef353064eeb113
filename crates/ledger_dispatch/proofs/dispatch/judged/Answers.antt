use Rattle.std.proofs.Common.{◌≡◌, ℤ, ◌∙◌, subst, to_z, of_z, w64, arith}
use Rattle.std.specs.Prelude.{IfOk}
use Rattle.std.proofs.lemmas.Int.{ints}
use Rattle.ledger_dispatch.specs.DispatchSupport.{judged_in}
use Rattle.ledger_dispatch.proofs.dispatch.judged.Goals as goal

pub returns : goal.returns
returns c =
    let same : to_z w64 (of_z w64 c.tick-tick.result) ≡ c.tick-tick.result = omega (arith, ints) in
    subst (λ (t : ℤ). IfOk c.judged_at.result (λ answer. answer ≡ judged_in c.args.index.now.present t c.args.tx.now)) (same ∙ c.tick-tick.ensures) c.judged_at.ensures
