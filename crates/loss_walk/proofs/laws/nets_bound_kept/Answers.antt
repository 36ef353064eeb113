use Rattle.loss_walk.proofs.NetLemmas.{nets_bound_kept}
use Rattle.loss_walk.proofs.laws.nets_bound_kept.Goals as goal

pub returns : goal.returns
returns c = nets_bound_kept c.time_never_goes_back.ensures
