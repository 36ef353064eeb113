use Rattle.std.proofs.Common.{arith, ◌∙◌}
use Rattle.linear.proofs.RangeLaws.{of_part, of_newest}
use Rattle.linear.proofs.ranges.range_in.Goals as goal

pub returns-then-place-parts : goal.returns-then-place-parts
returns-then-place-parts c =
    of_part c.args.parts.now c.args.newest.now c.as_slice.result.now _ c.args.place c.args.at c.range_at.result c.requires (omega arith) (c.as_slice.ensures ∙ c.index-parts-place.is) c.range_at.ensures

pub returns-then-place-parts-2 : goal.returns-then-place-parts-2
returns-then-place-parts-2 c =
    of_newest c.args.parts.now c.args.newest.now c.args.place c.args.at c.range_at-then-place-parts-2.result c.requires (omega arith) c.range_at-then-place-parts-2.ensures
