-- What is promised of a contract and the state in which it starts. Each promise speaks of all runs from there.
use Rattle.std.specs.Prelude.{◌≡◌, ◌≢◌, ℤ, pos, neg_ℤ, ◌^◌, ◌≤ℤ◌, ◌<ℤ◌, true, false, Option, IfSome, Err, List, [], ◌∷◌, ◌⊎◌}
use Rattle.std.specs.List.{AllByRecursion}
use Rattle.contract.specs.Names.declared.party.Party.{Party}
use Rattle.contract.specs.Names.declared.token.Token.{Token}
use Rattle.contract.specs.declared.fault.SemFault.TheVariants as faults
use Rattle.contract.specs.declared.transaction.Transaction.{Transaction}
use Rattle.contract.specs.declared.warning.Warning.{Warning}
use Rattle.contract.specs.declared.warning.Warning.TheVariants as warnings
use Rattle.contract.specs.Tree.{ContractTree}
use Rattle.contract.specs.States.States.{StateMaps}
use Rattle.semantics.specs.Evaluation.Numbers.{all_fit}
use Rattle.semantics.specs.Walk.{standing, answer_of}
use Rattle.semantics.specs.Closing.{IsSpent}
use Rattle.analysis_spec.specs.declared.kind.AlarmKind.{AlarmKind}
use Rattle.analysis_spec.specs.declared.kind.AlarmKind.TheVariants.{NonPositiveDeposit, NonPositivePay, PartialPay, Shadowing, AssertionFailed, Leaves128}
use Rattle.analysis_spec.specs.declared.path.PathStep.{PathStep}
use Rattle.analysis_spec.specs.Runs.{walk_from, stands_after, payments_of, paid_to}
use Rattle.analysis_spec.specs.Marks.{passed, leads_after, Mark, marks_of}

abbrev pub kind_of : Warning → AlarmKind
kind_of (warnings.NonPositiveDeposit a p t n) = NonPositiveDeposit
kind_of (warnings.NonPositivePay p y t n) = NonPositivePay
kind_of (warnings.PartialPay p y t paid due) = PartialPay
kind_of (warnings.Shadowing x old new) = Shadowing
kind_of warnings.AssertionFailed = AssertionFailed

-- whatever transactions came before, none gives a warning of this kind, not even one that is refused
abbrev pub NeverWarns : AlarmKind → StateMaps → ContractTree → Type 0
NeverWarns kind s c = (earlier : List Transaction) (t : Transaction) → AllByRecursion (λ w. kind_of w ≢ kind) (walk_from (stands_after (standing s c) earlier) t).warnings

-- nor at this place
abbrev pub NeverWarnsAt : AlarmKind → List PathStep → StateMaps → ContractTree → Type 0
NeverWarnsAt kind place s c =
    (earlier : List Transaction) (t : Transaction) → let a = standing s c in
    AllByRecursion (λ (m : Mark). m.place ≡ place → AllByRecursion (λ w. kind_of w ≢ kind) m.warnings) (marks_of (leads_after [] a earlier) (stands_after a earlier) t)

-- a warning of the kind is among these
abbrev pub HasKind : AlarmKind → List Warning → Type 0
HasKind kind [] = ⊥
HasKind kind (w ∷ ws) = (kind_of w ≡ kind) ⊎ HasKind kind ws

-- a step tells of an alarm: it warns so, or visits a number that leaves 128 bits
abbrev pub TellsOf : AlarmKind → Mark → Type 0
TellsOf NonPositiveDeposit m = HasKind NonPositiveDeposit m.warnings
TellsOf NonPositivePay m = HasKind NonPositivePay m.warnings
TellsOf PartialPay m = HasKind PartialPay m.warnings
TellsOf Shadowing m = HasKind Shadowing m.warnings
TellsOf AssertionFailed m = HasKind AssertionFailed m.warnings
TellsOf Leaves128 m = all_fit m.numbers ≡ false

-- one at the place does, and no number leaves 128 bits before it
abbrev pub ComesAt : AlarmKind → List PathStep → List Mark → Type 0
ComesAt kind place [] = ⊥
ComesAt kind place (m ∷ ms) = ((m.place ≡ place) × TellsOf kind m) ⊎ ((all_fit m.numbers ≡ true) × ComesAt kind place ms)

-- a time that JSON can write
abbrev pub IsWritten : ℤ → Type 0
IsWritten n = (neg_ℤ (pos (2 ^ 63)) ≤ℤ n) × (n <ℤ pos (2 ^ 63))

abbrev pub HasWrittenTimes : Transaction → Type 0
HasWrittenTimes t = IsWritten t.interval.from × IsWritten t.interval.to

-- whatever transactions came before, none is refused because a number leaves 128 bits, as long as JSON can write their
-- times; the numbers of their inputs may be any
abbrev pub StaysWithin128 : StateMaps → ContractTree → Type 0
StaysWithin128 s c =
    (earlier : List Transaction) (t : Transaction) → AllByRecursion HasWrittenTimes (t ∷ earlier) → answer_of (walk_from (stands_after (standing s c) earlier) t) ≢ Err faults.Leaves128

-- nor is the first number that leaves 128 bits visited at this place
abbrev pub NeverLeavesAt : List PathStep → StateMaps → ContractTree → Type 0
NeverLeavesAt place s c =
    (earlier : List Transaction) (t : Transaction) → AllByRecursion HasWrittenTimes (t ∷ earlier) → let a = standing s c in
    ComesAt Leaves128 place (marks_of (leads_after [] a earlier) (stands_after a earlier) t) → ⊥

-- whatever transactions came before, none starts at the place, goes through it or stops there, not even one that is refused
abbrev pub NeverReached : List PathStep → StateMaps → ContractTree → Type 0
NeverReached place s c =
    (earlier : List Transaction) (t : Transaction) → let a = standing s c in
    AllByRecursion (λ there. there ≢ place) (passed (leads_after [] a earlier) (walk_from (stands_after a earlier) t).turns)

-- what a party is paid of a token is in no run above `most`, and in no run that closed the contract below `least`; a
-- bound that is none says nothing
pub record PaysBetween (party : Party) (token : Token) (least most : Option ℤ) (s : StateMaps) (c : ContractTree) : Type 0 where
  pub always : (ts : List Transaction) → IfSome most (λ n. paid_to party token (payments_of (standing s c) ts) ≤ℤ n)
  pub once_closed : (ts : List Transaction) → let a = stands_after (standing s c) ts in IsSpent a.state a.contract → IfSome least (λ n. n ≤ℤ paid_to party token (payments_of (standing s c) ts))
