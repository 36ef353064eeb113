use Rattle.std.proofs.Common.{◌≡◌, ◌++◌, drop, map, string_bytes}
use Rattle.play_objects.specs.EntryObjects.{entry_objects}
use Rattle.play_objects.proofs.entries.entry_objects.Given as goal

abbrev pub invariant-loop-place : goal.invariant-loop-place
invariant-loop-place l = map (λ s. string_bytes s) l.objects.items ++ entry_objects l.place (drop l.place l.entries) ≡ entry_objects 0 l.entries
