use Rattle.std.proofs.Common.{◌≡◌, length, take}
use Rattle.eutxo.proofs.resolved.same_outputs.Given as goal

abbrev pub invariant-loop-i : goal.invariant-loop-i
invariant-loop-i l = (length l.xs ≡ length l.ys) × (take l.i l.xs ≡ take l.i l.ys)
