-- What is answered of values and observations, for every run that satisfies what is known.
use Rattle.std.specs.Prelude.{◌≡◌, ℤ, Bool, true, cond, if◌then◌else◌, List, [], ◌∷◌, Option, ◌⊎◌}
use Rattle.std.specs.List.{AllByRecursion}
use Rattle.std.specs.Option.{IsSomeAnd}
use Rattle.contract.specs.declared.interval.Interval.{Interval}
use Rattle.contract.specs.declared.payment.Payment.{Payment}
use Rattle.contract.specs.Tree.{ValueTree, ObservationTree}
use Rattle.contract.specs.States.States.{StateMaps}
use Rattle.semantics.specs.Evaluation.Evaluation.{eval, visited, holds}
use Rattle.semantics.specs.Evaluation.Numbers.{fits}
use Rattle.linear.specs.Linear.{Linear, Valuation, number_at}
use Rattle.symbols.specs.Symbols.{IsValued, IsClosed, Leads, Gives}
use Rattle.analysis_spec.specs.declared.kind.AlarmKind.{AlarmKind}
use Rattle.analysis_spec.specs.declared.kind.AlarmKind.TheVariants.{Leaves128}
use Rattle.analysis_spec.specs.Promises.{IsWritten}
use Rattle.analysis_walk.specs.Limits.{Scope, any_runs, written_runs, Allowed, GoesOn}
use Rattle.analysis_walk.specs.declared.conclusion.Branches.{Branches}
use Rattle.analysis_values.specs.declared.observed.Observed.{Observed}
use Rattle.analysis_values.specs.Known.{Known, AreTimes, IsSeen, SeesBelow, IsDescribed}

-- an alarm unless it is shown not to come
abbrev pub unless : Bool → AlarmKind → List AlarmKind
unless shown kind = if shown then [] else kind ∷ []

-- what is known leads on to what is known of the same view
pub record GoesTo (k : Known) (r : Valuation) (m : Known) : Type 0 where
  pub view : m.view ≡ k.view
  pub symbols : Leads k.symbols r m.symbols

-- ---- values

-- an expression stands for the number of a value
pub record Evaluates (k : Known) (v : ValueTree) (m : Known) (e : Linear) : Type 0 where
  pub view : m.view ≡ k.view
  pub gives : (scope : Scope) (i : Interval) (s : StateMaps) (ps : List Payment) → (d : IsDescribed scope k i s ps) → Gives k.symbols d.numbers (m.symbols, e) (eval i s v)

-- where its numbers are said to fit, the runs that are spoken of may visit them
abbrev pub FitsWhereSaid : Known → ValueTree → Bool → Type 0
FitsWhereSaid k v said = (scope : Scope) (i : Interval) (s : StateMaps) (ps : List Payment) → IsDescribed scope k i s ps → GoesOn scope (unless said Leaves128) → AllByRecursion (Allowed scope) (visited i s v)

-- ---- observations

-- what is known where an observation is true, and where it is false; none where it can't be so
abbrev pub Decides : Known → ObservationTree → Option Known → Option Known → Type 0
Decides k o if_true if_false = (scope : Scope) (i : Interval) (s : StateMaps) (ps : List Payment) → (d : IsDescribed scope k i s ps) → IsSomeAnd (cond (holds i s o) if_true if_false) (GoesTo k d.numbers)

-- what is answered of an observation: with the alarm, where its numbers are not shown to fit
abbrev pub branches_of : Observed → Branches Known
branches_of b = record { kinds = unless b.fits Leaves128; if_true = b.if_true; if_false = b.if_false }

-- what is known in either of two cases, of which one can be at least
abbrev pub Unites : Known → Option Known → Option Known → Option Known → Type 0
Unites k a b c = (r : Valuation) → IsClosed k.symbols → IsValued r k.symbols → IsSomeAnd a (GoesTo k r) ⊎ IsSomeAnd b (GoesTo k r) → IsSomeAnd c (GoesTo k r)

-- ---- numbers

-- an expression is said to fit 128 bits, in runs whose times JSON can write
abbrev pub StaysWhereSaid : Known → Linear → Bool → Type 0
StaysWhereSaid k l said = said ≡ true → (r : Valuation) → IsValued r k.symbols → AreTimes written_runs r k.view.times → fits (number_at r l) ≡ true

-- ---- times

-- a time of the runs that are spoken of
abbrev pub IsTime : Scope → ℤ → Type 0
IsTime any_runs n = Unit {0}
IsTime written_runs n = IsWritten n

-- all that is known is still true with such a number, for which an expression stands
pub record SeesTime (scope : Scope) (k : Known) (r : Valuation) (m : Known) (e : Linear) (n : ℤ) (i : Interval) (s : StateMaps) (ps : List Payment) : Type 0 where
  pub gives : Gives k.symbols r (m.symbols, e) n
  pub below : SeesBelow m.symbols.next m.view
  pub seen : IsSeen scope gives.values m.view i s ps

abbrev pub AddsTime : Known → Known → Linear → Type 0
AddsTime k m e = (scope : Scope) (i : Interval) (s : StateMaps) (ps : List Payment) (n : ℤ) → (d : IsDescribed scope k i s ps) → IsTime scope n → SeesTime scope k d.numbers m e n i s ps
