use Rattle.std.proofs.Common.{◌+◌, ◌*◌, map, drop}
use Rattle.contract.specs.Tree.{contract_tree, case_tree, case_trees}
use Rattle.lowering.specs.Sizes.{conts, conts_of}
use Rattle.lowering.proofs.Cases.{Progress}
use Rattle.lowering.proofs.contracts.«+add_contract».Given as goal

abbrev pub decreases-add_contract : goal.decreases-add_contract
decreases-add_contract l = 4 * conts (contract_tree l.contract.now)

abbrev pub decreases-add_case : goal.decreases-add_case
decreases-add_case l = 4 * conts (contract_tree l.case.now.then) + 1

abbrev pub decreases-add_cases : goal.decreases-add_cases
decreases-add_cases l = 4 * conts_of (case_trees (map case_tree l.cases.now)) + 2

-- what the rest makes, after what was made, is what all make
abbrev pub invariant-add_cases-loop-case : goal.invariant-add_cases-loop-case
invariant-add_cases-loop-case l = Progress l.fn.builder l.builder l.cases (drop l.case-index l.case-items) l.numbers
