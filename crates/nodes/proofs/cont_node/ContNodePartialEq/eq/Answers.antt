use Rattle.names.proofs.FromCollections.SameLaws.{same_by_from}
use Rattle.nodes.specs.contracts.cont_node.ContNode as it
use Rattle.nodes.proofs.cont_node.ContNodePartialEq.eq.Goals as goal

pub returns : goal.returns
returns c = same_by_from it.the_row.coded _ _ _ c.same.ensures
