use Rattle.std.proofs.Common.{◌≡◌, map, drop}
use Rattle.contract.specs.Tree.{case_tree, case_trees}
use Rattle.keeping_up.specs.KeepsUp.{asks_for}
use Rattle.loss_walk.proofs.asking.asks_for.Given as goal

-- none so far does
abbrev pub invariant-loop-case : goal.invariant-loop-case
invariant-loop-case l = asks_for l.party (case_trees (map case_tree (drop l.case-index l.cases))) ≡ asks_for l.party (case_trees (map case_tree l.cases))
