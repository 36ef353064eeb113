use Rattle.std.proofs.Common.{◌≡◌, ◌++◌, drop}
use Rattle.play_endings.specs.Endings.{entries_of}
use Rattle.play_endings.proofs.placed.entries_of.Given as goal

abbrev pub invariant-loop-place : goal.invariant-loop-place
invariant-loop-place l = l.own.items ++ entries_of l.seat l.place (drop l.place l.entries) ≡ entries_of l.seat 0 l.entries
