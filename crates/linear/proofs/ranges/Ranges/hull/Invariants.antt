use Rattle.linear.specs.Ranged.{IsHull}
use Rattle.linear.proofs.ranges.Ranges.hull.Given as goal

abbrev pub invariant-loop-place : goal.invariant-loop-place
invariant-loop-place l = IsHull l.left l.right l.self l.out
