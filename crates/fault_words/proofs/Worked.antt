-- The worked rows.
use Rattle.std.proofs.Common.{refl}
use Rattle.std.specs.Fmt.{digits}
use Rattle.json.proofs.OnLiterals.{json_on_literals}
use Rattle.hex.proofs.OnLiterals.{hex_on_literals}
use Rattle.fault_words.specs.Rows.{RulesAreTold, BuildersAreTold}

pub rules_are_told : RulesAreTold
unfolding digits json_on_literals hex_on_literals
rules_are_told = (refl, refl, refl, refl, refl)

pub builders_are_told : BuildersAreTold
unfolding digits json_on_literals hex_on_literals
builders_are_told = (refl, refl, refl)
