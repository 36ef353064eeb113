use Rattle.analysis_spec.proofs.PlaceLemmas.{warnings_have_places}
use Rattle.analysis_spec.proofs.laws.warnings_have_places.Goals as goal

pub returns : goal.returns
returns c = warnings_have_places
