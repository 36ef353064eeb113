use Rattle.std.proofs.Common.{arith}
use Rattle.linear.proofs.QueryLemmas.{ranged_at}
use Rattle.linear.proofs.ranges.range_at.Goals as goal

pub returns-then-at-ranges : goal.returns-then-at-ranges
returns-then-at-ranges c = λ n r h. ranged_at r n c.args.at c.args.ranges.now _ (omega arith) h
