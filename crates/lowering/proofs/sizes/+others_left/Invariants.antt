use Rattle.std.proofs.Common.{◌≡◌, ◌+◌, map, drop}
use Rattle.contract.specs.Tree.{case_tree, case_trees}
use Rattle.lowering.specs.Sizes.{others_of}
use Rattle.lowering.proofs.sizes.«+others_left».Given as goal

-- what was taken is what the cases so far have
abbrev pub invariant-others_left_by-loop-case : goal.invariant-others_left_by-loop-case
invariant-others_left_by-loop-case l = l.left + others_of (case_trees (map case_tree l.cases)) ≡ l.room + others_of (case_trees (map case_tree (drop l.case-index l.case-items)))
