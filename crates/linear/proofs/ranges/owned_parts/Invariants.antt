use Rattle.std.proofs.Common.{◌≡◌, take}
use Rattle.linear.proofs.ranges.owned_parts.Given as goal

abbrev pub invariant-loop-part : goal.invariant-loop-part
invariant-loop-part l = l.out.items ≡ take l.part-index l.parts
