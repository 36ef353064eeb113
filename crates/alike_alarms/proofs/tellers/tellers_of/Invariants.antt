use Rattle.contract.specs.Tree.{contract_tree}
use Rattle.alike_alarms.specs.AlikeSupport.{AreChosen}
use Rattle.alike_alarms.proofs.tellers.tellers_of.Given as goal

abbrev pub invariant-loop-index : goal.invariant-loop-index
invariant-loop-index l = AreChosen (contract_tree l.contract) l.seen l.guesses l.tellers.items l.index
