use Rattle.marlowe_explain.proofs.Worked.{faults_are_members, standing_is_members}
use Rattle.marlowe_explain.proofs.laws.worked_explanation_members.Goals as goal

pub returns : goal.returns
returns c = record { faults = faults_are_members; standing = standing_is_members }
