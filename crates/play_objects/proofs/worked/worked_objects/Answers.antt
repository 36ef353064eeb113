use Rattle.play_objects.proofs.WorkedLemmas.{entries_are_told, others_are_told}
use Rattle.play_objects.proofs.worked.worked_objects.Goals as goal

pub returns : goal.returns
returns c = record { entries = entries_are_told; others = others_are_told }
