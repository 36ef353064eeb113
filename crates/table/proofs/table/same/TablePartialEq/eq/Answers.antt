use Rattle.contract.proofs.FromCollections.SameLaws.{same_by_from}
use Rattle.table.specs.contracts.table.Table as it
use Rattle.table.proofs.table.same.TablePartialEq.eq.Goals as goal

pub returns : goal.returns
returns c = same_by_from it.the_row.coded _ _ _ c.same.ensures
