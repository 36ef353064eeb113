-- A contract and its tree determine each other, under names for the code.
use Rattle.std.proofs.Common.{◌≡◌, sym, ◌∙◌, ap}
use Rattle.contract.specs.Tree.{value_tree, observation_tree, action_tree, contract_tree}
use Rattle.contract.specs.TreeInverse.{value_of, observation_of, action_of, contract_of}
use Rattle.contract.proofs.TreeLaws.{value_tree-value_of, value_of-value_tree, observation_tree-observation_of, observation_of-observation_tree, action_tree-action_of, action_of-action_tree, contract_tree-contract_of, contract_of-contract_tree}
use Rattle.contract.specs.Laws.{OneTreeEach}

one_tree_each : {X T : Type 0} (tree : X → T) (of : T → X) → ((t : T) → tree (of t) ≡ t) → ((x : X) → of (tree x) ≡ x) → OneTreeEach tree of
one_tree_each tree of there back = (there, back, λ x y e. sym (back x) ∙ ap of e ∙ back y)

pub value_trees : OneTreeEach value_tree value_of
value_trees = one_tree_each value_tree value_of value_tree-value_of value_of-value_tree

pub observation_trees : OneTreeEach observation_tree observation_of
observation_trees = one_tree_each observation_tree observation_of observation_tree-observation_of observation_of-observation_tree

pub action_trees : OneTreeEach action_tree action_of
action_trees = one_tree_each action_tree action_of action_tree-action_of action_of-action_tree

pub contract_trees : OneTreeEach contract_tree contract_of
contract_trees = one_tree_each contract_tree contract_of contract_tree-contract_of contract_of-contract_tree
