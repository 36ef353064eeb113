use Rattle.std.proofs.Common.{◌≡◌, ◌≤◌, map, drop}
use Rattle.contract.specs.Tree.{case_trees}
use Rattle.table.specs.Heights.{contract_height, greatest, case_heights}
use Rattle.evaluation.specs.Timeouts.{later, last_in}
use Rattle.table.specs.Flat.{AllStand, a_case, trees, cont_tree}
use Rattle.table.proofs.table.Table.«+last_timeout».Given as goal

abbrev pub decreases-last_timeout : goal.decreases-last_timeout
decreases-last_timeout l = contract_height (cont_tree l.self.now l.cont.0)

abbrev pub decreases-last_in_cases : goal.decreases-last_in_cases
decreases-last_in_cases l = greatest (case_heights (case_trees (map (trees l.self.now).case l.cases.now)))

-- the latest so far and of the rest is the latest of all; what is left stands, and lies no deeper
abbrev pub invariant-last_in_cases-loop-case : goal.invariant-last_in_cases-loop-case
invariant-last_in_cases-loop-case l = record {
  whole : later l.most (last_in (case_trees (map (trees l.self).case (drop l.case-index l.cases)))) ≡ last_in (case_trees (map (trees l.self).case l.cases));
  stand : AllStand l.self (map a_case (drop l.case-index l.cases));
  low : greatest (case_heights (case_trees (map (trees l.self).case (drop l.case-index l.cases)))) ≤ greatest (case_heights (case_trees (map (trees l.self).case l.cases)));
}
