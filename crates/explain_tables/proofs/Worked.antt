-- The worked rows.
use Rattle.std.proofs.Common.{refl}
use Rattle.std.specs.Fmt.{digits}
use Rattle.json.proofs.OnLiterals.{json_on_literals}
use Rattle.explain_tables.specs.Rows.{StepsGoDown, LinesAreTold, MembersAreTold}

pub steps_go_down : StepsGoDown
steps_go_down = (refl, refl, refl)

pub lines_are_told : LinesAreTold
unfolding digits
lines_are_told = (refl, refl, refl)

pub members_are_told : MembersAreTold
unfolding digits json_on_literals
members_are_told = (refl, refl)
