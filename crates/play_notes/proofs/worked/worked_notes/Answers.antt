use Rattle.play_notes.proofs.WorkedLemmas.{refusals_are_told, no_notes_are_plain}
use Rattle.play_notes.proofs.worked.worked_notes.Goals as goal

pub returns : goal.returns
returns c = record { refusals = refusals_are_told; plain = no_notes_are_plain }
