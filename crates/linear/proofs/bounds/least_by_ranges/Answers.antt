use Rattle.std.specs.Int.{w128}
use Rattle.std.proofs.lemmas.Int.{to_z-of_z}
use Rattle.linear.specs.Bounded.{numbered}
use Rattle.linear.proofs.QueryLemmas.{by_ranges}
use Rattle.linear.proofs.bounds.least_by_ranges.Goals as goal

pub returns : goal.returns
returns c =
    by_ranges (numbered 0 c.args.bounds.now) c.args.factor c.args.expression.now c.least_combined.result (rw (to_z-of_z w128 c.args.factor c.ranges.factor) at c.least_combined.ensures)
