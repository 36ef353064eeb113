-- What a run may do. No reader of the promises needs this file.
use Rattle.std.specs.Prelude.{◌≡◌, ◌≢◌, ℤ, ◌≤ℤ◌, true, List, [], ◌∷◌, ◌⊎◌, IfSome}
use Rattle.std.specs.List.{AllByRecursion}
use Rattle.contract.specs.declared.interval.Interval.{Interval}
use Rattle.contract.specs.declared.payment.Payment.{Payment}
use Rattle.contract.specs.declared.warning.Warning.{Warning}
use Rattle.semantics.specs.Evaluation.Numbers.{fits}
use Rattle.analysis_spec.specs.declared.kind.AlarmKind.{AlarmKind}
use Rattle.analysis_spec.specs.declared.kind.AlarmKind.TheVariants.{Leaves128}
use Rattle.analysis_spec.specs.Runs.{paid_to}
use Rattle.analysis_spec.specs.Promises.{kind_of, IsWritten}
use Rattle.analysis_spec.specs.declared.path.PathStep.{PathStep}
use Rattle.analysis_spec.specs.declared.alarm.Alarm.{Alarm}
use Rattle.analysis_spec.specs.declared.paid.PaidRange.{PaidRange}

-- which intervals transactions have, behind which numbers of a step they are spoken of further, which numbers a step may
-- visit and which warnings may come at which place, and what may have been paid in all where the contract is closed
pub record Limits : Type 1 where
  pub Admits : Interval → Type 0
  pub Passes : List ℤ → Type 0
  pub Visits : List PathStep → List ℤ → Type 0
  pub Warns : List PathStep → Warning → Type 0
  pub Pays : List Payment → Type 0

-- ---- the limits that an analysis finds

-- which runs are spoken of: any; or those whose times JSON can write, up to the first number that leaves 128 bits
pub data Scope : Type 0 where
  any_runs : Scope
  written_runs : Scope

-- an interval of such a run
abbrev pub Admitted : Scope → Interval → Type 0
Admitted any_runs i = Unit {0}
Admitted written_runs i = IsWritten i.from × IsWritten i.to

-- a number that such a run visits
abbrev pub Allowed : Scope → ℤ → Type 0
Allowed any_runs n = Unit {0}
Allowed written_runs n = fits n ≡ true

-- the numbers of such a run are allowed behind these alarms
abbrev pub GoesOn : Scope → List AlarmKind → Type 0
GoesOn any_runs kinds = Unit {0}
GoesOn written_runs kinds = AllByRecursion (λ kind. kind ≢ Leaves128) kinds

-- an alarm of the kind stands at the place
abbrev pub HasAlarm : List Alarm → List PathStep → AlarmKind → Type 0
HasAlarm [] place kind = ⊥
HasAlarm (a ∷ alarms) place kind = ((a.place ≡ place) × (a.kind ≡ kind)) ⊎ HasAlarm alarms place kind

-- a step of such a run visits these numbers at a place: allowed ones, or such that an alarm stands there
abbrev pub AreVisited : Scope → List Alarm → List PathStep → List ℤ → Type 0
AreVisited scope alarms place ns = AllByRecursion (Allowed scope) ns ⊎ HasAlarm alarms place Leaves128

-- what a party is paid of a token lies in its range, where it has a bound
abbrev pub LiesIn : List Payment → PaidRange → Type 0
LiesIn ps r = IfSome r.least (λ n. n ≤ℤ paid_to r.party r.token ps) × IfSome r.most (λ n. paid_to r.party r.token ps ≤ℤ n)

-- runs of a scope have no warning and no number that isn't allowed without an alarm, and pay what lies in these ranges
abbrev pub limits : Scope → List Alarm → List PaidRange → Limits
limits scope alarms ranges =
    record { Admits = Admitted scope; Passes = AllByRecursion (Allowed scope); Visits = AreVisited scope alarms; Warns = λ place w. HasAlarm alarms place (kind_of w); Pays = λ ps. AllByRecursion (LiesIn ps) ranges }
