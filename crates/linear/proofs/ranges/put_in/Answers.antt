use Rattle.std.proofs.Common.{length, sym, ap, ◌∙◌, subst, arith}
use Rattle.linear.specs.Ranged.{ArePut}
use Rattle.linear.proofs.RangeLaws.{full_set, length_set_before, put_long, within_part, length_newest, within_newest}
use Rattle.linear.proofs.ranges.put_in.Goals as goal

pub returns-in_ok-parts-clause-full : goal.returns-in_ok-parts-clause-full
returns-in_ok-parts-clause-full c =
    let e = c.in_ok-ranges.ensures ∙ (c.as_slice.ensures ∙ c.index.ensures) in
    let l = put_long c.args.parts.now.items c.in_ok-ranges.ranges.items c.put_at.new.ranges.items _ c.args.place c.args.at c.args.range c.requires (omega (arith, c.len.ensures)) e c.put_at.ensures in
    full_set c.args.parts.now.items c.args.place c.in_ok-parts.field-0 c.requires (ap length c.in_ok-parts.ensures ∙ l)

pub returns-in_ok-parts-clause-same : goal.returns-in_ok-parts-clause-same
returns-in_ok-parts-clause-same c =
    let e = c.in_ok-ranges.ensures ∙ (c.as_slice.ensures ∙ c.index.ensures) in
    let l = put_long c.args.parts.now.items c.in_ok-ranges.ranges.items c.put_at.new.ranges.items _ c.args.place c.args.at c.args.range c.requires (omega (arith, c.len.ensures)) e c.put_at.ensures in
    length_set_before c.args.parts.now.items c.args.newest.now.items c.args.place c.in_ok-parts.field-0 c.requires (ap length c.in_ok-parts.ensures ∙ l)

pub returns-in_ok-parts-clause-within : goal.returns-in_ok-parts-clause-within
returns-in_ok-parts-clause-within c =
    let e = c.in_ok-ranges.ensures ∙ (c.as_slice.ensures ∙ c.index.ensures) in
    within_part c.args.parts.now.items c.args.newest.now.items c.in_ok-ranges.ranges.items c.in_ok-parts.field-0 _ c.args.place c.args.at c.args.range c.requires (omega (arith, c.len.ensures)) e
    (subst (λ x. ArePut c.in_ok-ranges.ranges.items x c.args.at c.args.range) (sym c.in_ok-parts.ensures) c.put_at.ensures)

pub returns-then-place-len-2-clause-same : goal.returns-then-place-len-2-clause-same
returns-then-place-len-2-clause-same c = length_newest c.args.parts.now.items c.args.newest.now.items c.put_at-then-place-len-2.new.ranges.items c.requires c.put_at-then-place-len-2.ensures.same

pub returns-then-place-len-2-clause-within : goal.returns-then-place-len-2-clause-within
returns-then-place-len-2-clause-within c =
    within_newest c.args.parts.now.items c.args.newest.now.items c.put_at-then-place-len-2.new.ranges.items c.args.place c.args.at c.args.range c.requires (omega (arith, c.len-else-place-len.ensures)) c.put_at-then-place-len-2.ensures
