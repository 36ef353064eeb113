use Rattle.std.proofs.Common.{◌*ℤ◌, ◌-◌, length, to_z, of_z, arith}
use Rattle.std.specs.Int.{w128}
use Rattle.linear.specs.Linear.{number_at}
use Rattle.linear.specs.Bounded.{numbered}
use Rattle.linear.proofs.QueryLemmas.{better_all}
use Rattle.linear.proofs.bounds.least_by_facts.Goals as goal

pub loop-newer-preserved : goal.loop-newer-preserved
loop-newer-preserved c =
    better_all (numbered 0 c.args.bounds.now) c.args.facts.now (length c.args.facts.now - c.loop-newer.newer - 1) c.index-facts-facts.result
    (λ r. to_z w128 (of_z w128 c.args.factor) *ℤ number_at r c.args.expression.now) c.loop-newer.best c.least_by_fact-bound.result c.greater-best.result (omega (arith, c.if-newer-facts.false))
    c.index-facts-facts.is c.greater-best.ensures c.loop-newer.invariant c.least_by_fact-bound.ensures
