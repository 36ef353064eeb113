use Rattle.std.proofs.Common.{◌≡◌, map, drop}
use Rattle.contract.specs.Tree.{case_tree, case_trees}
use Rattle.loss_walk.specs.Asked.{ask_beyond}
use Rattle.loss_walk.proofs.asked.+asks.Given as goal

-- none so far does
abbrev pub invariant-ask_beyond-loop-case : goal.invariant-ask_beyond-loop-case
invariant-ask_beyond-loop-case l = ask_beyond l.sole (case_trees (map case_tree (drop l.case-index l.case-items))) ≡ ask_beyond l.sole (case_trees (map case_tree l.case-items))
