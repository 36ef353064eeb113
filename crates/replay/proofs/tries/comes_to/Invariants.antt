use Rattle.contract.specs.Tree.{contract_tree}
use Rattle.semantics.specs.Evaluation.Path.{waits_for}
use Rattle.replay.specs.ComingSupport.{TriedTo}
use Rattle.replay.proofs.tries.comes_to.Given as goal

-- the cases so far don't take the input
abbrev pub invariant-loop-before : goal.invariant-loop-before
invariant-loop-before l = TriedTo l.interval l.state l.input (waits_for (contract_tree l.contract)) l.before
