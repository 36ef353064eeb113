use Rattle.std.proofs.Common.{◌≤◌, map, drop}
use Rattle.contract.specs.Tree.{case_tree, case_trees}
use Rattle.lowering.specs.Building.{cases_height}
use Rattle.lowering.proofs.sizes.«+is_low_contract».Given as goal

-- where the rest is low all are, and the rest is no higher than all
abbrev pub invariant-are_low_cases-loop-case : goal.invariant-are_low_cases-loop-case
invariant-are_low_cases-loop-case l = record {
  all : cases_height (case_trees (map case_tree (drop l.case-index l.case-items))) ≤ l.room → cases_height (case_trees (map case_tree l.cases)) ≤ l.room;
  rest : cases_height (case_trees (map case_tree (drop l.case-index l.case-items))) ≤ cases_height (case_trees (map case_tree l.cases));
}
