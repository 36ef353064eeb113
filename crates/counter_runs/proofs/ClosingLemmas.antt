-- Runs that close a contract.
use Rattle.std.proofs.Common.{◌≡◌, [], ◌∷◌, sym, subst, Result, Ok}
use Rattle.std.specs.Result.{result_unwrap_or}
use Rattle.contract.specs.declared.fault.SemFault.{SemFault}
use Rattle.contract.specs.declared.transaction.Transaction.{Transaction}
use Rattle.contract.specs.Tree.{ContractTree}
use Rattle.contract.specs.States.States.{StateMaps}
use Rattle.semantics.specs.Walk.{Standing, standing, answer_of}
use Rattle.semantics.specs.Closing.{IsSpent}
use Rattle.analysis_spec.specs.Runs.{walk_from}
use Rattle.counter_runs.specs.Closing.{CanClose}

-- where a contract is closed from the start
pub closed_at_once : (s : StateMaps) (c : ContractTree) → IsSpent s c → CanClose s c
closed_at_once s c h = ([], h)

-- by one transaction
pub closed_by : (s : StateMaps) (c : ContractTree) (t : Transaction) (b : Standing) → answer_of (walk_from (standing s c) t) ≡ Ok b → IsSpent b.state b.contract → CanClose s c
closed_by s c t b e h = (
  t ∷ [],
  subst (λ (r : Result Standing SemFault). let a = result_unwrap_or r (standing s c) in IsSpent a.state a.contract) (sym e) h,
)
