use Rattle.loss_walk.proofs.NetLemmas.{nets_bound_losses}
use Rattle.loss_walk.proofs.laws.nets_bound_losses.Goals as goal

pub returns : goal.returns
returns c = nets_bound_losses c.time_never_goes_back.ensures
