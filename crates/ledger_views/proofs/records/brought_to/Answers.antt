use Rattle.std.proofs.Common.{ℕ, ◌+◌, List, sym, ◌∙◌, ap, arith, drop}
use Rattle.ledger_kept.specs.EutxoTypes.declared.spend.Spend.{Spend}
use Rattle.ledger_kept.specs.LedgerLaws.Threads.{brought_to}
use Rattle.ledger_views.proofs.BroughtLemmas.{left_at, behind_step, behind_other}
use Rattle.ledger_views.proofs.records.brought_to.Goals as goal
use Rattle.ledger_views.proofs.records.brought_to.Goals.{then-is_step, else-is_step}

pub loop-x-preserved : goal.loop-x-preserved
loop-x-preserved c =
    let r = c.args.reference.now in
    let ds = c.args.datums.now in
    let i = c.loop-x.x-index in
    let n = c.loop-x.steps in
    let x = c.x-item.result in
    let xs = drop (i + 1) c.args.inputs.now in
    let apart = sym c.is_same.ensures ∙ c.if-is_same.false in
    let few = c.loop-x.invariant.few in
    let here = c.loop-x.invariant.brought ∙ ap (λ (l : List Spend). brought_to r l (drop n ds)) (left_at c.args.inputs.now i x c.loop-x-test.true c.x-item.is) in
    elim c.if-is_step.branch [
      | then-is_step w ↦
          let is = w.steps-is in
          record {
            brought = here ∙ behind_step r x xs n ds apart (sym c.is_step.ensures ∙ w.if-is_step.true) ∙ ap (λ (m : ℕ). brought_to r xs (drop m ds)) (sym is);
            few = omega (arith, few, is);
          }
      | else-is_step w ↦
          let is = w.steps-is in
          record {
            brought = here ∙ behind_other r x xs n ds apart (sym c.is_step.ensures ∙ w.if-is_step.false) ∙ ap (λ (m : ℕ). brought_to r xs (drop m ds)) (sym is);
            few = omega (arith, few, is);
          }
    ]
