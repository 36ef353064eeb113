-- Runs that close a contract.
use Rattle.std.specs.Prelude.{List}
use Rattle.contract.specs.declared.transaction.Transaction.{Transaction}
use Rattle.contract.specs.Tree.{ContractTree}
use Rattle.contract.specs.States.States.{StateMaps}
use Rattle.semantics.specs.Walk.{standing}
use Rattle.semantics.specs.Closing.{IsSpent}
use Rattle.analysis_spec.specs.Runs.{stands_after}

-- some run from a state closes a contract, so that nothing is left in it
abbrev pub CanClose : StateMaps → ContractTree → Type 0
CanClose s c = (ts : List Transaction) × (let a = stands_after (standing s c) ts in IsSpent a.state a.contract)
