-- Runs that end in an alarm at a place, and what promises of places say together.
use Rattle.std.specs.Prelude.{◌≡◌, IsOk, List, [], ◌∷◌}
use Rattle.std.specs.List.{AllByRecursion}
use Rattle.contract.specs.declared.transaction.Transaction.{Transaction}
use Rattle.contract.specs.Tree.{ContractTree}
use Rattle.contract.specs.States.States.{StateMaps}
use Rattle.semantics.specs.Walk.{Standing, standing, answer_of}
use Rattle.analysis_spec.specs.declared.kind.AlarmKind.{AlarmKind}
use Rattle.analysis_spec.specs.declared.kind.AlarmKind.TheVariants.{Leaves128}
use Rattle.analysis_spec.specs.declared.path.PathStep.{PathStep}
use Rattle.analysis_spec.specs.Runs.{walk_from, standing_after}
use Rattle.analysis_spec.specs.Marks.{place_after, marks_of}
use Rattle.analysis_spec.specs.CounterRuns.{Tells, EndsIn}
use Rattle.analysis_spec.specs.Promises.{ComesAt, NeverWarns, NeverWarnsAt, StaysWithin128, NeverLeavesAt, HasWrittenTimes}

-- a transaction tells of the alarm, and at this place of the whole contract, where a part of it stands at a place
pub record TellsAt (kind : AlarmKind) (place here : List PathStep) (a : Standing) (t : Transaction) : Type 0 where
  pub tells : Tells kind (walk_from a t)
  pub comes : ComesAt kind place (marks_of here a t)

-- each transaction is accepted where the one before it left the contract, and the last tells of the alarm at the place
abbrev pub EndsFrom : AlarmKind → List PathStep → List PathStep → Standing → List Transaction → Type 0
EndsFrom kind place here a [] = ⊥
EndsFrom kind place here a (t ∷ []) = TellsAt kind place here a t
EndsFrom kind place here a (t ∷ u ∷ ts) = IsOk (answer_of (walk_from a t)) × EndsFrom kind place (place_after here a t) (standing_after a t) (u ∷ ts)

abbrev pub EndsAt : AlarmKind → List PathStep → StateMaps → ContractTree → List Transaction → Type 0
EndsAt kind place s c = EndsFrom kind place [] (standing s c)

-- ---- laws

-- a kind of warning that comes at no place never comes
abbrev pub WarningsHavePlaces : Type 0
WarningsHavePlaces = (kind : AlarmKind) (s : StateMaps) (c : ContractTree) → ((place : List PathStep) → NeverWarnsAt kind place s c) → NeverWarns kind s c

-- and where no number leaves 128 bits first at any place, the contract stays within them
abbrev pub LeavingHasAPlace : Type 0
LeavingHasAPlace = (s : StateMaps) (c : ContractTree) → ((place : List PathStep) → NeverLeavesAt place s c) → StaysWithin128 s c

-- a run that ends in an alarm at a place ends in the alarm
abbrev pub PlacedRunsEndSo : Type 0
PlacedRunsEndSo = (kind : AlarmKind) (place : List PathStep) (s : StateMaps) (c : ContractTree) (ts : List Transaction) → EndsAt kind place s c ts → EndsIn kind (standing s c) ts

-- a run that ends in a warning at a place breaks the promise that none comes there
abbrev pub WarningsBreakPlaces : Type 0
WarningsBreakPlaces =
    (kind : AlarmKind) (place : List PathStep) (s : StateMaps) (c : ContractTree) (ts : List Transaction) → (kind ≡ Leaves128 → ⊥) → EndsAt kind place s c ts → NeverWarnsAt kind place s c → ⊥

-- and one whose numbers first leave 128 bits there, at times that JSON can write, that they don't
abbrev pub LeavingBreaksPlaces : Type 0
LeavingBreaksPlaces =
    (place : List PathStep) (s : StateMaps) (c : ContractTree) (ts : List Transaction) → AllByRecursion HasWrittenTimes ts → EndsAt Leaves128 place s c ts → NeverLeavesAt place s c → ⊥
