use Rattle.step_notes.proofs.WorkedLemmas.{cases_are_told, cases_are_members, lines_have_heads}
use Rattle.step_notes.proofs.worked.worked_steps.Goals as goal

pub returns : goal.returns
returns c = record { cases = cases_are_told; members = cases_are_members; heads = lines_have_heads }
