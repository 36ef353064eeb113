-- What a walk shows of a contract from what is known at a place. No reader of the promises needs this file.
use Rattle.std.specs.Prelude.{ℕ, List, map}
use Rattle.std.specs.List.{AllByRecursion}
use Rattle.contract.specs.declared.interval.Interval.{Interval}
use Rattle.contract.specs.declared.payment.Payment.{Payment}
use Rattle.contract.specs.Tree.{ActionTree, ContractTree, CaseTrees}
use Rattle.contract.specs.States.States.{StateMaps}
use Rattle.analysis_spec.specs.declared.kind.AlarmKind.{AlarmKind}
use Rattle.analysis_spec.specs.declared.alarm.Alarm.{Alarm}
use Rattle.analysis_spec.specs.declared.paid.PaidRange.{PaidRange}
use Rattle.analysis_spec.specs.declared.path.PathStep.{PathStep}
use Rattle.analysis_walk.specs.Limits.{Scope, HasAlarm, limits}
use Rattle.analysis_walk.specs.Covered.{Covers, CoversCases}
use Rattle.analysis_walk.specs.Conclusions.{Description}

abbrev pub alarm_at : List PathStep → AlarmKind → Alarm
alarm_at here kind = record { kind = kind; place = here }

abbrev pub alarms_at : List PathStep → List AlarmKind → List Alarm
alarms_at here kinds = map (alarm_at here) kinds

-- these alarms are among all alarms
abbrev pub AreAmong : List Alarm → List Alarm → Type 0
AreAmong alarms = AllByRecursion (λ (a : Alarm). HasAlarm alarms a.place a.kind)

module _ {K : Type 0} (Describes : Description K) (alarms : List Alarm) (ranges : List PaidRange) where
  -- wherever this is known at a place, whatever comes from there on has an alarm and pays within the ranges
  abbrev pub IsCovered : List PathStep → K → ContractTree → Type 0
  IsCovered here k c =
      (scope : Scope) (i : Interval) (s : StateMaps) (ps : List Payment) → Describes scope k i s ps → Covers (limits scope alarms ranges) here i s ps c

  abbrev pub AreCovered : List PathStep → ℕ → K → List ActionTree → CaseTrees → Type 0
  AreCovered here n k earlier ks =
      (scope : Scope) (i : Interval) (s : StateMaps) (ps : List Payment) → Describes scope k i s ps → CoversCases (limits scope alarms ranges) here n i s ps earlier ks
