-- The worked rows.
use Rattle.std.proofs.Common.{refl}
use Rattle.std.specs.Fmt.{digits}
use Rattle.json.proofs.OnLiterals.{json_on_literals}
use Rattle.hex.proofs.OnLiterals.{hex_on_literals}
use Rattle.marlowe_explain.specs.Rows.{InputsAreTold, LinesAreIndented, FaultsAreTold, StandingIsTold, FaultsAreMembers, StandingIsMembers}

pub inputs_are_told : InputsAreTold
unfolding digits json_on_literals hex_on_literals
inputs_are_told = (refl, refl, refl)

pub lines_are_indented : LinesAreIndented
lines_are_indented = refl

pub faults_are_told : FaultsAreTold
unfolding digits json_on_literals hex_on_literals
faults_are_told = (refl, refl, refl, refl, refl)

pub standing_is_told : StandingIsTold
unfolding digits json_on_literals hex_on_literals
standing_is_told = (refl, refl)

pub faults_are_members : FaultsAreMembers
unfolding digits json_on_literals hex_on_literals
faults_are_members = (refl, refl, refl, refl, refl)

pub standing_is_members : StandingIsMembers
unfolding digits json_on_literals hex_on_literals
standing_is_members = (refl, refl)
