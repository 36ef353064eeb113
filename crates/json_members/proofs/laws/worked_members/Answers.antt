use Rattle.json_members.proofs.Worked.{members_are_written}
use Rattle.json_members.proofs.laws.worked_members.Goals as goal

pub returns : goal.returns
returns c = members_are_written
