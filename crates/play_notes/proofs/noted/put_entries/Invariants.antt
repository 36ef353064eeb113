use Rattle.std.proofs.Common.{◌≡◌, ◌++◌, drop, map, string_bytes}
use Rattle.play_notes.specs.Notes.{noted_entries}
use Rattle.play_notes.proofs.noted.put_entries.Given as goal

abbrev pub invariant-loop-number : goal.invariant-loop-number
invariant-loop-number l =
    string_bytes l.out ++ noted_entries l.number (drop l.number (map (λ s. string_bytes s) l.notes)) (drop l.number l.entries)
    ≡ string_bytes l.fn.out ++ noted_entries 0 (map (λ s. string_bytes s) l.notes) l.entries
