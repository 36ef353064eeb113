use Rattle.std.proofs.Common.{◌+◌, ◌*◌, map}
use Rattle.contract.specs.Tree.{contract_tree, case_tree, case_trees}
use Rattle.analysis_walk.specs.NodesSupport.{nodes, nodes_of}
use Rattle.analysis_walk.proofs.weight.«+weight».Given as goal

abbrev pub decreases-weight : goal.decreases-weight
decreases-weight l = 2 * nodes (contract_tree l.contract.now)

abbrev pub decreases-weights : goal.decreases-weights
decreases-weights l = 2 * nodes_of (case_trees (map case_tree l.cases.now)) + 1
