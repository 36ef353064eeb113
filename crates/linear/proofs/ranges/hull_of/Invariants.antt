use Rattle.std.proofs.Common.{◌≡◌, ◌*◌, length}
use Rattle.linear.specs.Ranged.{HoldInBoth}
use Rattle.linear.proofs.ranges.hull_of.Given as goal

abbrev pub invariant-loop-at : goal.invariant-loop-at
invariant-loop-at l = record {
  all : length l.out.items ≡ l.at;
  either : HoldInBoth (64 * l.place) l.left l.right l.out.items;
}
