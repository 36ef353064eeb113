use Rattle.std.proofs.Common.{◌≡◌}
use Rattle.text_spots.specs.Spots.{spot_at}
use Rattle.unread_notes.proofs.NotesLemmas.{Completes}
use Rattle.unread_notes.proofs.notes.put_some_lines.Given as goal

-- the lines of the keys so far are put, and the spot of the last is known
abbrev pub invariant-loop-key : goal.invariant-loop-key
invariant-loop-key l = record {
  lines : Completes l.file l.text l.keys l.key-index l.fn.out.items l.out.items;
  spot : l.place.spot ≡ spot_at l.text l.place.offset;
}
