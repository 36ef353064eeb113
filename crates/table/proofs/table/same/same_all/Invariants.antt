use Rattle.std.proofs.Common.{◌≡◌, length, take}
use Rattle.table.proofs.table.same.same_all.Given as goal

abbrev pub invariant-loop-i : goal.invariant-loop-i
invariant-loop-i g l = (length l.xs ≡ length l.ys) × (take l.i l.xs ≡ take l.i l.ys)
