use Rattle.std.proofs.Common.{◌≡◌, map, drop}
use Rattle.contract.specs.Tree.{case_tree, case_trees}
use Rattle.contract_notes.specs.Reads.{is_read_by}
use Rattle.contract_notes.proofs.reads.+contracts.Given as goal

-- none so far reads it
abbrev pub invariant-is_read_by-loop-case : goal.invariant-is_read_by-loop-case
invariant-is_read_by-loop-case l = is_read_by l.source (case_trees (map case_tree (drop l.case-index l.case-items))) ≡ is_read_by l.source (case_trees (map case_tree l.case-items))
