use Rattle.names.proofs.FromCollections.SameLaws.{same_by_from}
use Rattle.states.specs.contracts.state.State as it
use Rattle.states.proofs.equal.StatePartialEq.eq.Goals as goal

pub returns : goal.returns
returns c = same_by_from it.the_row.coded _ _ _ c.same.ensures
