use Rattle.analysis_walk.proofs.AvoidLemmas.{avoided_is_never_reached}
use Rattle.analysis_walk.proofs.laws.avoided_is_never_reached.Goals as goal

pub returns : goal.returns
returns c = avoided_is_never_reached c.time_never_goes_back.ensures
