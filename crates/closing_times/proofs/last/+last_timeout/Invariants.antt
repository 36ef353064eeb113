use Rattle.std.proofs.Common.{◌≡◌, map, drop}
use Rattle.contract.specs.Tree.{case_tree, case_trees}
use Rattle.semantics.specs.Evaluation.Timeouts.{later, last_in}
use Rattle.closing_times.proofs.last.+last_timeout.Given as goal

-- the latest so far and of the rest is the latest of all
abbrev pub invariant-last_of_cases-loop-case : goal.invariant-last_of_cases-loop-case
invariant-last_of_cases-loop-case l = later l.most (last_in (case_trees (map case_tree (drop l.case-index l.case-items)))) ≡ last_in (case_trees (map case_tree l.case-items))
