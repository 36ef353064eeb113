use Rattle.contract.specs.Tree.{contract_tree}
use Rattle.marlowe_analyse.specs.RunsSupport.{TellsOf}
use Rattle.marlowe_analyse.proofs.runs.told_each.Given as goal

abbrev pub invariant-loop-index : goal.invariant-loop-index
invariant-loop-index l = TellsOf l.state (contract_tree l.contract) l.standings l.index l.told.items
