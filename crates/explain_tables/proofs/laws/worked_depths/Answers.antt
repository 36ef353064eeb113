use Rattle.explain_tables.proofs.Worked.{steps_go_down, lines_are_told, members_are_told}
use Rattle.explain_tables.proofs.laws.worked_depths.Goals as goal

pub returns : goal.returns
returns c = record { depths = steps_go_down; lines = lines_are_told; members = members_are_told }
