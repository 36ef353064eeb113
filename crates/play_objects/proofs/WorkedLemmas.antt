-- The worked rows.
use Rattle.std.proofs.Common.{refl}
use Rattle.std.specs.Fmt.{digits}
use Rattle.json.proofs.OnLiterals.{json_on_literals}
use Rattle.hex.proofs.OnLiterals.{hex_on_literals}
use Rattle.play_objects.specs.Rows.{EntriesAreTold, OthersAreTold}

pub entries_are_told : EntriesAreTold
unfolding digits json_on_literals hex_on_literals
entries_are_told call = (refl, refl)

pub others_are_told : OthersAreTold
unfolding digits json_on_literals hex_on_literals
others_are_told i = (refl, refl, refl, refl, refl)
