use Rattle.std.proofs.Common.{◌*◌}
use Rattle.linear.specs.declared.bounds.Bounds.{Bounds}
use Rattle.linear.proofs.RangeLaws.{both_on}
use Rattle.linear.proofs.ranges.hull_of.Goals as goal

pub loop-at-preserved : goal.loop-at-preserved
loop-at-preserved c =
    let b : Bounds = record { least = c.least_of_both-least.result; greatest = c.greatest_of_both-greatest.result } in
    let h = both_on (64 * c.args.place) c.args.left.now c.args.right.now c.loop-at.out.items c.push.new.self.items c.loop-at.at c.in_part-one.result c.in_part-other.result b
    c.loop-at.invariant.all c.loop-at.invariant.either c.in_ok-push.ensures.items c.in_part-one.ensures c.in_part-other.ensures c.least_of_both-least.ensures c.greatest_of_both-greatest.ensures in
    record { all = h.0; either = h.1 }
