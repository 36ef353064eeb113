use Rattle.std.proofs.Common.{◌≡◌, ◌++◌, drop, map, string_bytes}
use Rattle.play_notes.specs.Notes.{notes_of}
use Rattle.play_notes.proofs.notes.notes_of.Given as goal

abbrev pub invariant-loop-entry : goal.invariant-loop-entry
invariant-loop-entry l = map (λ s. string_bytes s) l.notes.items ++ notes_of (drop l.entry-index l.entries) ≡ notes_of l.entries
