use Rattle.std.proofs.Common.{◌≡◌, ◌≤◌, ◌+◌, ◌*◌, map, take, drop}
use Rattle.contract.specs.Tree as trees
use Rattle.table.specs.Heights.{contract_height, case_height, case_heights, greatest}
use Rattle.table.specs.Flat.{cont_tree, case_tree, AllStand, a_case}
use Rattle.table.proofs.table.decompile.«+contract_at».Given as goal

abbrev pub decreases-contract_at : goal.decreases-contract_at
decreases-contract_at l = 3 * contract_height (cont_tree l.table.now l.cont.0)

abbrev pub decreases-boxed_contract_at : goal.decreases-boxed_contract_at
decreases-boxed_contract_at l = 3 * contract_height (cont_tree l.table.now l.cont.0) + 1

abbrev pub decreases-case_at : goal.decreases-case_at
decreases-case_at l = 3 * case_height (case_tree l.table.now l.number)

abbrev pub decreases-cases_at : goal.decreases-cases_at
decreases-cases_at l = 3 * greatest (case_heights (trees.case_trees (map (case_tree l.table.now) l.numbers.now))) + 1

-- the cases so far; what is left stands, and is no deeper than all
abbrev pub invariant-cases_at-loop-number : goal.invariant-cases_at-loop-number
invariant-cases_at-loop-number l = record {
  made : map trees.case_tree l.cases ≡ map (case_tree l.table) (take l.number-index l.numbers);
  stand : AllStand l.table (map a_case (drop l.number-index l.numbers));
  low : greatest (case_heights (trees.case_trees (map (case_tree l.table) (drop l.number-index l.numbers)))) ≤ greatest (case_heights (trees.case_trees (map (case_tree l.table) l.numbers)));
}
