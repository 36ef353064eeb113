use Rattle.std.proofs.Common.{◌≡◌, ◌++◌, drop, string_bytes}
use Rattle.play_notes.specs.Notes.{round_notes}
use Rattle.play_notes.proofs.replies.put_round.Given as goal

abbrev pub invariant-loop-place : goal.invariant-loop-place
invariant-loop-place l = string_bytes l.out ++ round_notes (drop l.place-index l.tickets) ≡ string_bytes l.fn.out ++ round_notes l.tickets
