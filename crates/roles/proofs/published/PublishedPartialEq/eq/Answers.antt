use Rattle.contract.proofs.FromCollections.SameLaws.{same_by_from}
use Rattle.roles.specs.contracts.published.Published as it
use Rattle.roles.proofs.published.PublishedPartialEq.eq.Goals as goal

pub returns : goal.returns
returns c = same_by_from it.the_row.coded _ _ _ c.same.ensures
