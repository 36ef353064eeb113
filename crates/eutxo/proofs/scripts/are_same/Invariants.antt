use Rattle.std.proofs.Common.{◌≡◌, length, take}
use Rattle.eutxo.proofs.scripts.are_same.Given as goal

abbrev pub invariant-loop-i : goal.invariant-loop-i
invariant-loop-i g l = (length l.xs ≡ length l.ys) × (take l.i l.xs ≡ take l.i l.ys)
