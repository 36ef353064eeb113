-- No reader needs this file: it serves private functions.
-- Where a transaction goes on, so that what comes from there comes of the whole.
use Rattle.std.specs.Prelude.{◌≡◌, ℕ, ◌+◌, ℤ, int_lt, Bool, true, false, if◌then◌else◌, List, ◌∷◌, [], ◌++◌, drop, slice_get, ◌⊎◌, Some, Ok}
use Rattle.contract.specs.declared.input.Input.{Input}
use Rattle.contract.specs.declared.interval.Interval.{Interval}
use Rattle.contract.specs.declared.warning.Warning.{Warning}
use Rattle.contract.specs.Tree.{ActionTree, ContractTree, if_obs, when}
use Rattle.contract.specs.States.States.{StateMaps}
use Rattle.semantics.specs.Evaluation.Evaluation.{holds}
use Rattle.semantics.specs.Evaluation.Numbers.{all_fit, within}
use Rattle.semantics.specs.Evaluation.Path.{waits_for}
use Rattle.semantics.specs.Applying.{matches, tried}
use Rattle.semantics.specs.Computed.{first_match, first_match_index}
use Rattle.analysis_spec.specs.declared.kind.AlarmKind.{AlarmKind}
use Rattle.analysis_spec.specs.declared.kind.AlarmKind.TheVariants.{Leaves128}
use Rattle.analysis_spec.specs.declared.path.PathStep.{PathStep}
use Rattle.analysis_spec.specs.declared.path.PathStep.TheVariants.{Then, Else, TimeoutContinuation, Case, Action}
use Rattle.analysis_spec.specs.Marks.{Mark, trying, marks_from}
use Rattle.analysis_spec.specs.Promises.{HasKind, ComesAt}

-- an alarm comes at a place, of a contract that stands at another
abbrev pub Comes : AlarmKind → List PathStep → List PathStep → Interval → StateMaps → ContractTree → List Input → Type 0
Comes kind place here i s c xs = ComesAt kind place (marks_from here i s c xs)

-- an alarm comes at a place ahead
pub record ComesAhead (kind : AlarmKind) (place : List PathStep) (i : Interval) (s : StateMaps) (c : ContractTree) (xs : List Input) : Type 0 where
  pub comes : (here : List PathStep) → Comes kind (here ++ place) here i s c xs

-- an alarm comes where the contract stands
pub record ComesHere (kind : AlarmKind) (i : Interval) (s : StateMaps) (c : ContractTree) : Type 0 where
  pub comes : (here : List PathStep) (xs : List Input) → Comes kind here here i s c xs

-- what comes behind a step, in the state t and of the contract d with the inputs ys, comes of the whole
pub record ComesBehind (step : PathStep) (i : Interval) (s : StateMaps) (c : ContractTree) (xs : List Input) (t : StateMaps) (d : ContractTree) (ys : List Input) : Type 0 where
  pub comes : (kind : AlarmKind) (place here : List PathStep) → Comes kind place (here ++ step ∷ []) i t d ys → Comes kind place here i s c xs

-- a reduction goes by a step: it leads on to the contract d in the state t
pub record GoesBy (step : PathStep) (i : Interval) (s : StateMaps) (c : ContractTree) (t : StateMaps) (d : ContractTree) : Type 0 where
  pub behind : (xs : List Input) → ComesBehind step i s c xs t d xs

-- an input is taken by a case, likewise
pub record TakenBy (n : ℕ) (i : Interval) (s : StateMaps) (c : ContractTree) (x : Input) (t : StateMaps) (d : ContractTree) : Type 0 where
  pub behind : (xs : List Input) → ComesBehind (Case n) i s c (x ∷ xs) t d xs

-- the branch of an If
abbrev pub branch : Bool → PathStep
branch b = if b then Then else Else

-- the step of a reduction, where there is one
abbrev pub step_from : Interval → StateMaps → ContractTree → PathStep
step_from i s (if_obs o c d) = branch (holds i s o)
step_from i s (when ks t c) = TimeoutContinuation
step_from i s _ = Then

-- what a case that is tried, and then taken, warns of and visits tells of an alarm
abbrev pub IsToldBy : AlarmKind → List ℤ → List Warning → Type 0
IsToldBy kind ns ws = ((kind ≡ Leaves128 → ⊥) × HasKind kind ws) ⊎ ((kind ≡ Leaves128) × (all_fit ns ≡ false))

-- an alarm comes at the action of a case that an input is tried at
pub record ComesAtAction (kind : AlarmKind) (n : ℕ) (i : Interval) (s : StateMaps) (c : ContractTree) (x : Input) : Type 0 where
  pub ahead : (xs : List Input) → ComesAhead kind (Action n ∷ []) i s c (x ∷ xs)

-- a case is tried, and doesn't take the input
pub record PassesBy (i : Interval) (s : StateMaps) (x : Input) (ks : List (ActionTree × ContractTree)) (n : ℕ) : Type 0 where
  pub case : ActionTree × ContractTree
  pub stands : slice_get ks n ≡ Some case
  pub tried : Ok false ≡ within (tried i s x case.0) (matches i s x case.0)

-- a When waits for inputs
abbrev pub waits : Interval → ContractTree → Bool
waits i (when ks t c) = int_lt i.to t
waits i _ = false

-- the cases before an index are tried, and none of them takes the input
pub record TriedTo (i : Interval) (s : StateMaps) (x : Input) (ks : List (ActionTree × ContractTree)) (n : ℕ) : Type 0 where
  pub marks : (kind : AlarmKind) (place here : List PathStep) (ms : List Mark) → ComesAt kind place (trying here n i s x (drop n ks) ++ ms) → ComesAt kind place (trying here 0 i s x ks ++ ms)
  pub first : first_match i s x ks ≡ first_match i s x (drop n ks)
  pub index : first_match_index i s x ks ≡ n + first_match_index i s x (drop n ks)

-- a case is the first that takes the input, and the contract d follows it
pub record IsTaken (n : ℕ) (i : Interval) (s : StateMaps) (c : ContractTree) (x : Input) (d : ContractTree) : Type 0 where
  pub waiting : waits i c ≡ true
  pub before : TriedTo i s x (waits_for c) n
  pub case : ActionTree × ContractTree
  pub stands : slice_get (waits_for c) n ≡ Some case
  pub matched : Ok true ≡ within (tried i s x case.0) (matches i s x case.0)
  pub follows : d ≡ case.1
