use Rattle.std.proofs.Common.{[], take}
use Rattle.contract.specs.Tree.{contract_tree}
use Rattle.semantics.specs.Walk.{standing}
use Rattle.semantics.specs.Reduction.{Quiet}
use Rattle.explain_transactions.specs.Moves.{Comes}
use Rattle.explain_transactions.specs.Support.{here}
use Rattle.explain_transactions.proofs.walk.walk.Given as goal

-- the inputs so far are taken, and all is quiet
abbrev pub invariant-loop-index : goal.invariant-loop-index
invariant-loop-index l =
    record {
      comes : Comes l.interval (take l.index l.inputs) [] (here l.fn.left) l.left.path (here l.left);
      quiet : Quiet l.interval l.left.state (contract_tree l.left.contract.now);
    }
