-- Runs that end in an alarm, from a contract and a state, transaction by transaction.
use Rattle.std.specs.Prelude.{◌≡◌, Err, IsOk, List, [], ◌∷◌}
use Rattle.std.specs.List.{AllByRecursion}
use Rattle.contract.specs.declared.fault.SemFault.TheVariants as faults
use Rattle.contract.specs.declared.transaction.Transaction.{Transaction}
use Rattle.contract.specs.Tree.{ContractTree}
use Rattle.contract.specs.States.States.{StateMaps}
use Rattle.semantics.specs.Walk.{Standing, Walk, standing, answer_of}
use Rattle.analysis_spec.specs.declared.kind.AlarmKind.{AlarmKind}
use Rattle.analysis_spec.specs.declared.kind.AlarmKind.TheVariants.{NonPositiveDeposit, NonPositivePay, PartialPay, Shadowing, AssertionFailed, Leaves128}
use Rattle.analysis_spec.specs.Runs.{walk_from, standing_after}
use Rattle.analysis_spec.specs.Promises.{HasKind, NeverWarns, StaysWithin128, HasWrittenTimes}

-- a transaction is accepted and warns so
abbrev pub WarnsOf : AlarmKind → Walk → Type 0
WarnsOf kind w = IsOk (answer_of w) × HasKind kind w.warnings

-- a transaction tells of an alarm: it is accepted and warns so, or is refused because a number leaves 128 bits
abbrev pub Tells : AlarmKind → Walk → Type 0
Tells NonPositiveDeposit w = WarnsOf NonPositiveDeposit w
Tells NonPositivePay w = WarnsOf NonPositivePay w
Tells PartialPay w = WarnsOf PartialPay w
Tells Shadowing w = WarnsOf Shadowing w
Tells AssertionFailed w = WarnsOf AssertionFailed w
Tells Leaves128 w = answer_of w ≡ Err faults.Leaves128

-- each transaction is accepted where the one before it left the contract, and the last tells of the alarm
abbrev pub EndsIn : AlarmKind → Standing → List Transaction → Type 0
EndsIn kind a [] = ⊥
EndsIn kind a (t ∷ []) = Tells kind (walk_from a t)
EndsIn kind a (t ∷ u ∷ ts) = IsOk (answer_of (walk_from a t)) × EndsIn kind (standing_after a t) (u ∷ ts)

-- ---- laws

-- a run that ends in a warning breaks the promise that none comes
abbrev pub WarningsBreakPromises : Type 0
WarningsBreakPromises = (kind : AlarmKind) (s : StateMaps) (c : ContractTree) (ts : List Transaction) → (kind ≡ Leaves128 → ⊥) → EndsIn kind (standing s c) ts → NeverWarns kind s c → ⊥

-- and one whose numbers leave 128 bits, at times that JSON can write, that they don't
abbrev pub LeavingBreaksPromises : Type 0
LeavingBreaksPromises = (s : StateMaps) (c : ContractTree) (ts : List Transaction) → AllByRecursion HasWrittenTimes ts → EndsIn Leaves128 (standing s c) ts → StaysWithin128 s c → ⊥
