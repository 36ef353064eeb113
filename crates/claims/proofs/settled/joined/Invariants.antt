use Rattle.std.proofs.Common.{◌≡◌, ◌+◌, ◌-◌, ◌≤◌, ◌++◌, length, drop}
use Rattle.claims.proofs.Joining.{Joins}
use Rattle.claims.proofs.settled.joined.Given as goal

abbrev pub invariant-loop-i : goal.invariant-loop-i
invariant-loop-i g l = record {
  left_in : l.i ≤ length l.left;
  right_in : l.j ≤ length l.right;
  joins : Joins g.K.Ord.cmp g.met.K.Ord.total (l.fn.left ++ l.fn.right) l.all.items (drop l.i l.left) (drop l.j l.right);
}

abbrev pub decreases-loop-i : goal.decreases-loop-i
decreases-loop-i g l = (length l.left - l.i) + (length l.right - l.j)
