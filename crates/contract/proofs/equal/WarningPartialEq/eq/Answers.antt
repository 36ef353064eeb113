use Rattle.states.proofs.FromCollections.SameLaws.{same_by_from}
use Rattle.contract.specs.contracts.warning.Warning as it
use Rattle.contract.proofs.equal.WarningPartialEq.eq.Goals as goal

pub returns : goal.returns
returns c = same_by_from it.the_row.coded _ _ _ c.same.ensures
