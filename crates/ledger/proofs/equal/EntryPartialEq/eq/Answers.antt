use Rattle.contract.proofs.FromCollections.SameLaws.{same_by_from}
use Rattle.ledger.specs.contracts.call.Entry as it
use Rattle.ledger.proofs.equal.EntryPartialEq.eq.Goals as goal

pub returns : goal.returns
returns c = same_by_from it.the_row.coded _ _ _ c.same.ensures
