-- The worked rows.
use Rattle.std.proofs.Common.{refl}
use Rattle.std.specs.Fmt.{digits}
use Rattle.json.proofs.OnLiterals.{json_on_literals}
use Rattle.hex.proofs.OnLiterals.{hex_on_literals}
use Rattle.step_notes.specs.Rows.{CasesAreTold, CasesAreMembers, LinesHaveHeads}

pub cases_are_told : CasesAreTold
unfolding digits json_on_literals hex_on_literals
cases_are_told = (refl, refl, refl, refl)

pub cases_are_members : CasesAreMembers
unfolding digits json_on_literals hex_on_literals
cases_are_members = (refl, refl, refl, refl)

pub lines_have_heads : LinesHaveHeads
lines_have_heads = refl
