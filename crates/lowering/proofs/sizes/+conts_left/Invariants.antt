use Rattle.std.proofs.Common.{◌≡◌, ◌+◌, map, drop}
use Rattle.contract.specs.Tree.{case_tree, case_trees}
use Rattle.lowering.specs.Sizes.{conts_of}
use Rattle.lowering.proofs.sizes.«+conts_left».Given as goal

-- what was taken is what the cases so far have
abbrev pub invariant-conts_left_by-loop-case : goal.invariant-conts_left_by-loop-case
invariant-conts_left_by-loop-case l = l.left + conts_of (case_trees (map case_tree l.cases)) ≡ l.room + conts_of (case_trees (map case_tree (drop l.case-index l.case-items)))
