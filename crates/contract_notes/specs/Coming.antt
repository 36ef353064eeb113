-- Where runs come, and in which state, told step by step. The state there has just what the way there gives, and what is
-- missing on the way reads 0.
use Rattle.std.specs.Prelude.{◌≡◌, ℕ, pos, false, List, [], ◌∷◌, ◌++◌}
use Rattle.std.specs.List.{AllByRecursion}
use Rattle.contract.specs.Names.declared.choice_id.ChoiceId.{ChoiceId}
use Rattle.contract.specs.declared.input.Input.{Input}
use Rattle.contract.specs.declared.interval.Interval.{Interval}
use Rattle.contract.specs.declared.transaction.Transaction.{Transaction}
use Rattle.contract.specs.Tree.{ActionTree, ContractTree, use_value, choice_value}
use Rattle.contract.specs.States.States.{StateMaps}
use Rattle.semantics.specs.Evaluation.Evaluation.{eval}
use Rattle.semantics.specs.Evaluation.Path.{waits_for}
use Rattle.semantics.specs.Walk.{Standing, standing}
use Rattle.semantics.specs.Reduction.{Reduction, Reduces}
use Rattle.semantics.specs.Applying.{IsFirstMatch, taken}
use Rattle.analysis_spec.specs.declared.path.PathStep.{PathStep}
use Rattle.analysis_spec.specs.declared.path.PathStep.TheVariants.{Case}
use Rattle.analysis_spec.specs.Marks.{step_of, passed, leads_after}
use Rattle.analysis_spec.specs.Runs.{walk_from, stands_after}
use Rattle.contract_notes.specs.declared.note.Source.{Source}
use Rattle.contract_notes.specs.declared.note.Source.TheVariants.{Name, Choice}
use Rattle.contract_notes.specs.Notes.{has, is_known}

-- a step of a run: a transaction begins in an interval, the contract reduces in one, or a case takes an input in one
pub data Step : Type 0 where
  begins : Interval → Step
  reduces : Interval → Reduction → Step
  takes : Interval → Input → ℕ → ActionTree × ContractTree → Step

-- it may come where a contract stands
abbrev pub MayCome : Standing → Step → Type 0
MayCome a (begins i) = Unit {0}
MayCome a (reduces i r) = Reduces i a.state a.contract r
MayCome a (takes i x n k) = IsFirstMatch i a.state x (waits_for a.contract) n k

-- where the contract stands behind it
abbrev pub stands_behind : Standing → Step → Standing
stands_behind a (begins i) = standing (record a.state { min_time = i.from }) a.contract
stands_behind a (reduces i r) = standing r.state r.contract
stands_behind a (takes i x n k) = standing (taken a.state x) k.1

-- where it leads from a place
abbrev pub goes : Step → List PathStep
goes (begins i) = []
goes (reduces i r) = step_of r.turn
goes (takes i x n k) = Case n ∷ []

-- steps come one after another, each where the one before it left the contract
abbrev pub MayRun : Standing → List Step → Type 0
MayRun a [] = Unit {0}
MayRun a (m ∷ ms) = MayCome a m × MayRun (stands_behind a m) ms

abbrev pub stands_at_end : Standing → List Step → Standing
stands_at_end a [] = a
stands_at_end a (m ∷ ms) = stands_at_end (stands_behind a m) ms

-- the place to which they come
abbrev pub comes_to : List Step → List PathStep
comes_to [] = []
comes_to (m ∷ ms) = goes m ++ comes_to ms

-- transactions are such steps: these come where the transactions lead, and leave the contract so
pub record AreSteps (a : Standing) (ts : List Transaction) : Type 0 where
  pub steps : List Step
  pub run : MayRun a steps
  pub there : comes_to steps ≡ leads_after [] a ts
  pub ends : stands_at_end a steps ≡ stands_after a ts

abbrev pub TransactionsAreSteps : Type 0
TransactionsAreSteps = (s : StateMaps) (c : ContractTree) (ts : List Transaction) → AreSteps (standing s c) ts

-- and each place that one passes, even one that is refused, is a place to which steps come
abbrev pub PassedIsComeTo : Type 0
PassedIsComeTo =
    (s : StateMaps) (c : ContractTree) (earlier : List Transaction) (t : Transaction) → let a = standing s c in
    AllByRecursion (λ place. (ms : List Step) × MayRun a ms × (comes_to ms ≡ place)) (passed (leads_after [] a earlier) (walk_from (stands_after a earlier) t).turns)

-- whatever run comes to a place: the state there has a name or a choice just where it is known there
abbrev pub KnownIsThere : Type 0
KnownIsThere =
    (s : StateMaps) (c : ContractTree) (ms : List Step) (a : Source) → MayRun (standing s c) ms → has (stands_at_end (standing s c) ms).state a ≡ is_known s c (comes_to ms) a

-- so a name that isn't known there reads 0, and so does a choice
abbrev pub MissingReadsZero : Type 0
MissingReadsZero =
    (s : StateMaps) (c : ContractTree) (ms : List Step) (i : Interval) → MayRun (standing s c) ms → let z = (stands_at_end (standing s c) ms).state in
    ((x : List ℕ) → is_known s c (comes_to ms) (Name x) ≡ false → eval i z (use_value x) ≡ pos 0)
    × ((id : ChoiceId) → is_known s c (comes_to ms) (Choice id) ≡ false → eval i z (choice_value id) ≡ pos 0)
