use Rattle.contract.proofs.FromCollections.SameLaws.{same_by_from}
use Rattle.machine.specs.contracts.datum.Datum as it
use Rattle.machine.proofs.datum.DatumPartialEq.eq.Goals as goal

pub returns : goal.returns
returns c = same_by_from it.the_row.coded _ _ _ c.same.ensures
