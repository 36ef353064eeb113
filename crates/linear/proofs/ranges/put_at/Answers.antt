use Rattle.linear.proofs.RangeLaws.{put_set}
use Rattle.linear.proofs.ranges.put_at.Goals as goal

pub returns-then-at-len : goal.returns-then-at-len
returns-then-at-len c = put_set c.args.ranges.now.items c.args.at c.args.range
