-- The definition of the notes, worked out.
use Rattle.std.proofs.Common.{refl}
use Rattle.std.specs.Fmt.{digits}
use Rattle.play_lines.specs.PlayLines.{played_lines}
use Rattle.play_notes.specs.Notes.{noted_lines}
use Rattle.play_notes.specs.Rows.{RefusalsAreTold, NoNotesArePlain}

pub refusals_are_told : RefusalsAreTold
unfolding noted_lines digits
refusals_are_told submit round = refl

pub no_notes_are_plain : NoNotesArePlain
unfolding noted_lines played_lines digits
no_notes_are_plain enqueue = refl
