use Rattle.std.proofs.Common.{◌≡◌, ◌++◌, map, drop}
use Rattle.contract.specs.Tree.{case_tree, case_trees}
use Rattle.contract_notes.specs.Parties.{parties_by}
use Rattle.contract_notes.proofs.parties.+contracts.Given as goal

-- those so far, and then those of the rest
abbrev pub invariant-add_by-loop-case : goal.invariant-add_by-loop-case
invariant-add_by-loop-case l = l.named ++ parties_by (case_trees (map case_tree (drop l.case-index l.case-items))) ≡ l.fn.named ++ parties_by (case_trees (map case_tree l.case-items))
