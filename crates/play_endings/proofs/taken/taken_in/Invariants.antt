use Rattle.std.proofs.Common.{◌≡◌, ◌++◌, drop}
use Rattle.play_endings.specs.Endings.{taken_in}
use Rattle.play_endings.proofs.taken.taken_in.Given as goal

abbrev pub invariant-loop-place : goal.invariant-loop-place
invariant-loop-place l = l.taken.items ++ taken_in l.place (drop l.place l.entries) ≡ taken_in 0 l.entries
