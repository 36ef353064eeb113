use Rattle.std.proofs.Common.{◌+◌, ◌*◌, map}
use Rattle.contract.specs.Tree.{contract_tree, case_tree, case_trees}
use Rattle.analysis_walk.specs.NodesSupport.{nodes, nodes_of}
use Rattle.loss_walk.proofs.CoverLemmas.{CoverBelow}
use Rattle.loss_walk.proofs.walk.«+walk».Given as goal

abbrev pub decreases-walk : goal.decreases-walk
decreases-walk l = 4 * nodes (contract_tree l.contract.now)

abbrev pub decreases-go_on : goal.decreases-go_on
decreases-go_on l = 4 * nodes (contract_tree l.contract.now) + 1

abbrev pub decreases-walk_both : goal.decreases-walk_both
decreases-walk_both l = 4 * (nodes (contract_tree l.then.now) + nodes (contract_tree l.otherwise.now)) + 2

abbrev pub decreases-walk_when : goal.decreases-walk_when
decreases-walk_when l = 4 * (1 + (nodes_of (case_trees (map case_tree l.cases.now)) + nodes (contract_tree l.then.now))) + 1

abbrev pub decreases-walk_cases : goal.decreases-walk_cases
decreases-walk_cases l = 4 * nodes_of (case_trees (map case_tree l.cases.now)) + 4

abbrev pub decreases-walk_copied : goal.decreases-walk_copied
decreases-walk_copied l = 4 * nodes_of (case_trees (map case_tree l.cases.now)) + 3

abbrev pub decreases-walk_case : goal.decreases-walk_case
decreases-walk_case l = 4 * nodes (contract_tree l.case.now.then) + 2

abbrev pub invariant-walk_cases-loop-index : goal.invariant-walk_cases-loop-index
invariant-walk_cases-loop-index l = CoverBelow l.question l.quiet l.each l.cases l.index l.fn.rows l.rows
