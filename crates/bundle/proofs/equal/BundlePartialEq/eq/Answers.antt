use Rattle.names.proofs.FromCollections.SameLaws.{same_by_from}
use Rattle.bundle.specs.contracts.bundle.Bundle as it
use Rattle.bundle.proofs.equal.BundlePartialEq.eq.Goals as goal

pub returns : goal.returns
returns c = same_by_from it.the_row.coded _ _ _ c.same.ensures
