-- Why a transaction is refused, and where.
use Rattle.std.specs.Prelude.{◌≡◌, ℕ, ℤ, ◌≤ℤ◌, ◌<ℤ◌, true, false, List, [], ◌∷◌, ◌++◌, length, Some, None, ◌⊎◌}
use Rattle.contract.specs.Names.declared.account.Account.{Account}
use Rattle.contract.specs.Names.declared.party.Party.{Party}
use Rattle.contract.specs.Names.declared.payee.Payee.TheVariants.{Account as ToAccount}
use Rattle.contract.specs.Names.declared.token.Token.{Token}
use Rattle.contract.specs.declared.fault.SemFault.{SemFault}
use Rattle.contract.specs.declared.fault.SemFault.TheVariants as faults
use Rattle.contract.specs.declared.input.Input.{Input}
use Rattle.contract.specs.declared.input.Input.TheVariants.{Deposit}
use Rattle.contract.specs.declared.interval.Interval.{Interval}
use Rattle.contract.specs.Tree.{ContractTree, CaseTrees, contract_tree, pay, if_obs, when, let_be, assert}
use Rattle.contract.specs.States.States.{StateMaps}
use Rattle.semantics.specs.Evaluation.Evaluation.{eval, visited, looked}
use Rattle.semantics.specs.Evaluation.Numbers.{all_fit}
use Rattle.semantics.specs.Evaluation.Path.{waits_for}
use Rattle.semantics.specs.Walk.{Standing, standing}
use Rattle.semantics.specs.Reduction.{Quiet, account_of}
use Rattle.semantics.specs.Applying.{taken_numbers}
use Rattle.semantics.specs.Computed.{pay_step}
use Rattle.semantics.specs.Transaction.{trimmed, begun}
use Rattle.next_inputs.specs.Taking.{taken_case, leaving_case}
use Rattle.analysis_spec.specs.declared.path.PathStep.{PathStep}
use Rattle.analysis_spec.specs.declared.path.PathStep.TheVariants.{Action}
use Rattle.explain_transactions.specs.Moves.{Comes}
use Rattle.explain_transactions.specs.declared.explanation.Explanation.{Explanation}
use Rattle.explain_transactions.specs.declared.explanation.Explanation.TheVariants as why

-- ---- numbers that leave 128 bits

-- the numbers of the value or the observation that is reduced there
abbrev pub own_numbers : Interval → StateMaps → ContractTree → List ℤ
own_numbers j s (pay p y t v c) = visited j s v
own_numbers j s (if_obs o c d) = looked j s o
own_numbers j s (let_be x v c) = visited j s v
own_numbers j s (assert o c) = looked j s o
own_numbers j s c = []

-- a payment into an account makes a sum there that leaves, and no number of the amount does
abbrev pub PaymentLeaves : Interval → StateMaps → ContractTree → Account → Type 0
PaymentLeaves j s (pay p (ToAccount q) t v c) e =
    (e ≡ account_of q t) × (all_fit (visited j s v) ≡ true) × (all_fit (pay_step s p (ToAccount q) t (eval j s v) [] c).numbers ≡ false)
PaymentLeaves j s c e = ⊥

-- a deposit makes a sum in its account that leaves
abbrev pub DepositLeaves : StateMaps → Input → Account → Type 0
DepositLeaves s (Deposit a p t n) e = (e ≡ account_of a t) × (all_fit (taken_numbers s (Deposit a p t n)) ≡ false)
DepositLeaves s x e = ⊥

-- ---- where a transaction stands

-- the interval is fixed, these inputs are taken and the others are left, and the transaction stands at a place of the contract
pub record Reaches (i : Interval) (s : StateMaps) (c : ContractTree) (xs : List Input) (front rest : List Input) (place : List PathStep) (b : Standing) : Type 0 where
  pub starts : i.from ≤ℤ i.to
  pub ends : s.min_time ≤ℤ i.to
  pub inputs : xs ≡ front ++ rest
  pub comes : Comes (trimmed i s) front [] (standing (begun i s) c) place b

-- it stands at a When whose timeout lies inside the interval
pub record IsAmbiguousAt (i : Interval) (s : StateMaps) (c : ContractTree) (xs : List Input) (place : List PathStep) (timeout : ℤ) : Type 0 where
  pub front : List Input
  pub rest : List Input
  pub there : Standing
  pub reaches : Reaches i s c xs front rest place there
  pub cases : CaseTrees
  pub then : ContractTree
  pub waits : there.contract ≡ when cases timeout then
  pub after : (trimmed i s).from <ℤ timeout
  pub within : timeout ≤ℤ i.to

-- the input at an index is the first that no case takes: those before it are taken, and the contract waits so
pub record IsUnmatchedAt (i : Interval) (s : StateMaps) (c : ContractTree) (xs : List Input) (n : ℕ) (place : List PathStep) (there : Standing) : Type 0 where
  pub front : List Input
  pub input : Input
  pub rest : List Input
  pub index : length front ≡ n
  pub reaches : Reaches i s c xs front (input ∷ rest) place there
  pub waits : Quiet (trimmed i s) there.state there.contract
  pub untaken : taken_case (trimmed i s) there.state input (waits_for there.contract) ≡ None
  pub within : leaving_case (trimmed i s) there.state input (waits_for there.contract) ≡ None

-- there is no input, and nothing to reduce: it stands at its beginning
pub record HasNothingToDo (i : Interval) (s : StateMaps) (c : ContractTree) (xs : List Input) (place : List PathStep) (there : Standing) : Type 0 where
  pub inputs : xs ≡ []
  pub path : place ≡ []
  pub stands : there ≡ standing (begun i s) c
  pub starts : i.from ≤ℤ i.to
  pub ends : s.min_time ≤ℤ i.to
  pub waits : Quiet (trimmed i s) (begun i s) c

-- ---- the first number that leaves 128 bits

-- it is one of the value or the observation that is reduced at a place
pub record ReducedLeaves (i : Interval) (s : StateMaps) (c : ContractTree) (xs : List Input) (place : List PathStep) : Type 0 where
  pub front : List Input
  pub rest : List Input
  pub there : Standing
  pub reaches : Reaches i s c xs front rest place there
  pub leaves : all_fit (own_numbers (trimmed i s) there.state there.contract) ≡ false

-- it is one of the action of a case, at which an input is tried
pub record TriedLeaves (i : Interval) (s : StateMaps) (c : ContractTree) (xs : List Input) (place : List PathStep) : Type 0 where
  pub front : List Input
  pub input : Input
  pub rest : List Input
  pub path : List PathStep
  pub there : Standing
  pub reaches : Reaches i s c xs front (input ∷ rest) path there
  pub waits : Quiet (trimmed i s) there.state there.contract
  pub index : ℕ
  pub leaves : leaving_case (trimmed i s) there.state input (waits_for there.contract) ≡ Some index
  pub action : place ≡ path ++ Action index ∷ []

-- it is the sum that a payment makes in an account
pub record PaidLeaves (i : Interval) (s : StateMaps) (c : ContractTree) (xs : List Input) (place : List PathStep) (e : Account) : Type 0 where
  pub front : List Input
  pub rest : List Input
  pub there : Standing
  pub reaches : Reaches i s c xs front rest place there
  pub leaves : PaymentLeaves (trimmed i s) there.state there.contract e

-- it is the sum that a deposit makes, which a case takes
pub record DepositedLeaves (i : Interval) (s : StateMaps) (c : ContractTree) (xs : List Input) (place : List PathStep) (e : Account) : Type 0 where
  pub front : List Input
  pub input : Input
  pub rest : List Input
  pub path : List PathStep
  pub there : Standing
  pub reaches : Reaches i s c xs front (input ∷ rest) path there
  pub waits : Quiet (trimmed i s) there.state there.contract
  pub index : ℕ
  pub takes : taken_case (trimmed i s) there.state input (waits_for there.contract) ≡ Some index
  pub leaves : DepositLeaves there.state input e
  pub action : place ≡ path ++ Action index ∷ []

-- ---- explanations

abbrev pub ValueLeaves : Interval → StateMaps → ContractTree → List Input → List PathStep → Type 0
ValueLeaves i s c xs place = ReducedLeaves i s c xs place ⊎ TriedLeaves i s c xs place

abbrev pub SumLeaves : Interval → StateMaps → ContractTree → List Input → List PathStep → Account → Type 0
SumLeaves i s c xs place e = PaidLeaves i s c xs place e ⊎ DepositedLeaves i s c xs place e

-- an explanation is right of a transaction
abbrev pub Explains : Interval → StateMaps → ContractTree → List Input → Explanation → Type 0
Explains i s c xs why.InvalidInterval = i.to <ℤ i.from
Explains i s c xs (why.IntervalInPast least) = (i.from ≤ℤ i.to) × (i.to <ℤ s.min_time) × (least ≡ s.min_time)
Explains i s c xs (why.Ambiguous place timeout) = IsAmbiguousAt i s c xs place timeout
Explains i s c xs (why.NoMatch n left) = IsUnmatchedAt i s c xs n left.path (standing left.state (contract_tree left.contract.now))
Explains i s c xs (why.Useless left) = HasNothingToDo i s c xs left.path (standing left.state (contract_tree left.contract.now))
Explains i s c xs (why.ValueLeaves place) = ValueLeaves i s c xs place
Explains i s c xs (why.SumLeaves place owner token) = SumLeaves i s c xs place (account_of owner.now token.now)

-- the fault that it explains
abbrev pub fault_of : Explanation → SemFault
fault_of why.InvalidInterval = faults.InvalidInterval
fault_of (why.IntervalInPast least) = faults.IntervalInPast
fault_of (why.Ambiguous place timeout) = faults.Ambiguous
fault_of (why.NoMatch n left) = faults.NoMatch
fault_of (why.Useless left) = faults.Useless
fault_of (why.ValueLeaves place) = faults.Leaves128
fault_of (why.SumLeaves place owner token) = faults.Leaves128
