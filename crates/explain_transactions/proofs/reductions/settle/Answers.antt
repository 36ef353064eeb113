use Rattle.std.proofs.Common.{sym, ◌∙◌, subst}
use Rattle.explain_transactions.specs.declared.stop.Moved.{Moved}
use Rattle.explain_transactions.specs.Support.{HasMoved}
use Rattle.explain_transactions.proofs.ReductionLemmas.{on_so}
use Rattle.explain_transactions.proofs.ToldLemmas.{moved_then}
use Rattle.explain_transactions.proofs.reductions.settle.Goals as goal

pub loop-moved-preserved : goal.loop-moved-preserved
loop-moved-preserved c =
    let i = c.args.interval in
    let on = on_so c.loop-moved.moved (sym c.is_on.ensures ∙ c.loop-moved-test.true) in
    moved_then i c.args.left.now c.loop-moved.left c.reduce_once-in-loop-moved.new.left c.in_ok-moved-2.moved (subst (λ (m : Moved). HasMoved i c.args.left.now c.loop-moved.left m) on c.loop-moved.invariant)
    c.in_ok-moved-2.ensures.moved
