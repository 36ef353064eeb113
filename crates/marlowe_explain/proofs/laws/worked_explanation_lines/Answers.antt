use Rattle.marlowe_explain.proofs.Worked.{inputs_are_told, lines_are_indented, faults_are_told, standing_is_told}
use Rattle.marlowe_explain.proofs.laws.worked_explanation_lines.Goals as goal

pub returns : goal.returns
returns c = record { inputs = inputs_are_told; indented = lines_are_indented; faults = faults_are_told; standing = standing_is_told }
