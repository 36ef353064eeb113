use Rattle.std.proofs.Common.{pos}
use Rattle.linear.proofs.WalkLemmas.{below_take}
use Rattle.linear.proofs.terms.is_below.Goals as goal

pub loop-term-preserved : goal.loop-term-preserved
loop-term-preserved c = below_take c.args.count c.args.terms.now c.loop-term.term-index (0, pos 0) c.loop-term-test.true c.loop-term.invariant c.if-term-count.false
