use Rattle.std.proofs.Common.{◌*ℤ◌, to_z, of_z}
use Rattle.std.specs.Int.{w128}
use Rattle.linear.specs.Linear.{number_at}
use Rattle.linear.specs.Bounded.{numbered}
use Rattle.linear.proofs.QueryLemmas.{better_by}
use Rattle.linear.proofs.bounds.least_by_fact.Goals as goal

pub loop-term-preserved : goal.loop-term-preserved
loop-term-preserved c =
    better_by (numbered 0 c.args.bounds.now) c.args.fact.now (λ r. to_z w128 (of_z w128 c.args.factor) *ℤ number_at r c.args.expression.now) c.loop-term.best c.least_by_term.result c.greater-best.result
    c.greater-best.ensures c.loop-term.invariant c.least_by_term.ensures
