use Rattle.std.proofs.Common.{◌*◌, length, sym, ap, ◌∙◌, subst, arith}
use Rattle.linear.specs.Ranged.{HoldInBoth}
use Rattle.linear.proofs.RangeLaws.{full_set, length_set_before, hull_part, length_newest, hull_newest}
use Rattle.linear.proofs.ranges.put_hull_in.Goals as goal

pub returns-in_ok-parts-clause-full : goal.returns-in_ok-parts-clause-full
returns-in_ok-parts-clause-full c = full_set c.args.parts.now.items c.args.place c.in_ok-parts.field-0 c.requires (ap length c.in_ok-parts.ensures ∙ c.in_ok-ranges.ensures.all)

pub returns-in_ok-parts-clause-same : goal.returns-in_ok-parts-clause-same
returns-in_ok-parts-clause-same c = length_set_before c.args.parts.now.items c.args.newest.now.items c.args.place c.in_ok-parts.field-0 c.requires (ap length c.in_ok-parts.ensures ∙ c.in_ok-ranges.ensures.all)

pub returns-in_ok-parts-clause-either : goal.returns-in_ok-parts-clause-either
returns-in_ok-parts-clause-either c =
    hull_part c.args.left.now c.args.right.now c.args.parts.now.items c.args.newest.now.items c.in_ok-parts.field-0 c.args.place c.requires (omega (arith, c.len.ensures)) (ap length c.in_ok-parts.ensures ∙ c.in_ok-ranges.ensures.all)
    (subst (HoldInBoth (64 * c.args.place) c.args.left.now c.args.right.now) (sym c.in_ok-parts.ensures) c.in_ok-ranges.ensures.either)

pub returns-in_ok-ranges-2-clause-same : goal.returns-in_ok-ranges-2-clause-same
returns-in_ok-ranges-2-clause-same c = length_newest c.args.parts.now.items c.args.newest.now.items c.in_ok-ranges-2.ranges.items c.requires (omega (arith, c.in_ok-ranges-2.ensures.all, c.len-then-place-len-2.ensures))

pub returns-in_ok-ranges-2-clause-either : goal.returns-in_ok-ranges-2-clause-either
returns-in_ok-ranges-2-clause-either c =
    hull_newest c.args.left.now c.args.right.now c.args.parts.now.items c.args.newest.now.items c.in_ok-ranges-2.ranges.items c.args.place c.requires (omega (arith, c.len-else-place-len.ensures))
    (omega (arith, c.in_ok-ranges-2.ensures.all, c.len-then-place-len-2.ensures)) c.in_ok-ranges-2.ensures.either
