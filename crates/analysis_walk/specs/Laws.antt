-- What a contract that keeps limits promises.
use Rattle.std.specs.Prelude.{List}
use Rattle.std.specs.List.{AllByRecursion}
use Rattle.std.specs.FinMap.{entries}
use Rattle.contract.specs.Tree.{ContractTree}
use Rattle.contract.specs.States.States.{StateMaps, AllPositive}
use Rattle.analysis_spec.specs.Promises.{PaysBetween, NeverReached}
use Rattle.analysis_spec.specs.Analysed.{NamesWhereItComes, NamesWhereItLeaves}
use Rattle.analysis_spec.specs.declared.alarm.Alarm.{Alarm}
use Rattle.analysis_spec.specs.declared.paid.PaidRange.{PaidRange}
use Rattle.analysis_walk.specs.Limits.{any_runs, written_runs, limits}
use Rattle.analysis_spec.specs.declared.path.PathStep.{PathStep}
use Rattle.analysis_walk.specs.Covered.{CoversFrom}
use Rattle.analysis_walk.specs.Avoided.{AvoidsFrom}

-- a kind never comes at a place where no alarm names it
abbrev pub AlarmsNameWhereItComes : Type 0
AlarmsNameWhereItComes = (alarms : List Alarm) (ranges : List PaidRange) (s : StateMaps) (c : ContractTree) → CoversFrom (limits any_runs alarms ranges) s c → NamesWhereItComes alarms s c

-- and where no alarm names numbers that leave 128 bits, none does so first
abbrev pub AlarmsNameWhereItLeaves : Type 0
AlarmsNameWhereItLeaves = (alarms : List Alarm) (ranges : List PaidRange) (s : StateMaps) (c : ContractTree) → CoversFrom (limits written_runs alarms ranges) s c → NamesWhereItLeaves alarms s c

-- a path that no run takes leads to where none comes
abbrev pub AvoidedIsNeverReached : Type 0
AvoidedIsNeverReached = (s : StateMaps) (c : ContractTree) (place : List PathStep) → AvoidsFrom s c place → NeverReached place s c

-- from accounts above 0, what is paid lies in its range
abbrev pub PaymentsLieInRanges : Type 0
PaymentsLieInRanges = (alarms : List Alarm) (ranges : List PaidRange) (s : StateMaps) (c : ContractTree) → AllPositive (entries s.accounts) → CoversFrom (limits any_runs alarms ranges) s c
    → AllByRecursion (λ (r : PaidRange). PaysBetween r.party r.token r.least r.most s c) ranges
