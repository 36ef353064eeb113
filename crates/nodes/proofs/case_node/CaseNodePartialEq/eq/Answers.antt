use Rattle.names.proofs.FromCollections.SameLaws.{same_by_from}
use Rattle.nodes.specs.contracts.case_node.CaseNode as it
use Rattle.nodes.proofs.case_node.CaseNodePartialEq.eq.Goals as goal

pub returns : goal.returns
returns c = same_by_from it.the_row.coded _ _ _ c.same.ensures
