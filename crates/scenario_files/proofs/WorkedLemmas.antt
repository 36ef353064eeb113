-- The worked rows compute.
use Rattle.std.proofs.Common.{refl}
use Rattle.json.proofs.OnLiterals.{json_on_literals}
use Rattle.scenario_files.specs.Rows.{RefusalsAreTold}

pub refusals_are_told : RefusalsAreTold
unfolding json_on_literals
refusals_are_told = (refl, refl)
