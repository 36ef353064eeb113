use Rattle.symbols.proofs.BranchLemmas.{below_take}
use Rattle.symbols.proofs.branches.are_below.Goals as goal

pub loop-expression-preserved : goal.loop-expression-preserved
loop-expression-preserved c = below_take c.args.count c.args.list.now c.loop-expression.expression-index c.expression-item.result c.loop-expression-test.true c.expression-item.is c.loop-expression.invariant (rw c.terms.ensures at (c.is_below.ensures c.if-not-is_below.false))
