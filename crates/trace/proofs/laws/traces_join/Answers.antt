use Rattle.trace.proofs.Joining.{traces_join}
use Rattle.trace.proofs.laws.traces_join.Goals as goal

pub returns : goal.returns
returns c = traces_join
