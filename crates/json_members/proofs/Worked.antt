-- The worked rows.
use Rattle.std.proofs.Common.{refl}
use Rattle.std.specs.Fmt.{digits}
use Rattle.json.proofs.OnLiterals.{json_on_literals}
use Rattle.json_members.specs.Rows.{MembersAreWritten}

pub members_are_written : MembersAreWritten
unfolding digits json_on_literals
members_are_written = refl
