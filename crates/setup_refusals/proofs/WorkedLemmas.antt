-- The worked rows compute.
use Rattle.std.proofs.Common.{refl}
use Rattle.json.proofs.OnLiterals.{json_on_literals}
use Rattle.setup_refusals.specs.Rows.{LinesAreTold, MembersAreTold}

pub lines_are_told : LinesAreTold
lines_are_told = (refl, refl, refl)

pub members_are_told : MembersAreTold
unfolding json_on_literals
members_are_told = (refl, refl)
