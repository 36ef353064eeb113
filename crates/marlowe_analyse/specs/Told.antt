-- What is told of a contract and the state in which it starts, and when that is so.
use Rattle.std.specs.Prelude.{◌≡◌, ℕ, ℤ, List, map, Option, Some, None, IfSome, option_map, is_some}
use Rattle.std.specs.Borrow.{Bor}
use Rattle.std.specs.List.{AllByRecursion}
use Rattle.contract.specs.Tree.{ContractTree}
use Rattle.contract.specs.declared.transaction.Transaction.{Transaction}
use Rattle.contract.specs.States.States.{StateMaps}
use Rattle.evaluation.specs.Timeouts.{last}
use Rattle.analysis_spec.specs.declared.kind.AlarmKind.{AlarmKind}
use Rattle.analysis_spec.specs.declared.kind.AlarmKind.TheVariants.{Leaves128}
use Rattle.analysis_spec.specs.Promises.{NeverWarns, StaysWithin128}
use Rattle.analysis_spec.specs.declared.alarm.Alarm.{Alarm}
use Rattle.analysis_spec.specs.declared.paid.PaidRange.{PaidRange}
use Rattle.analysis_spec.specs.declared.path.PathStep.{PathStep}
use Rattle.analysis_spec.specs.Analysed.{IsSilent, NamesWhatComes, NamesWhereItComes, StaysUnlessTold, NamesWhereItLeaves, AreNeverReached, PaysWithinRanges, PaysOthersNothing}
use Rattle.analysis_spec.specs.PlacedRuns.{EndsAt}
use Rattle.alike_alarms.specs.Alike.{SeenAlarm}
use Rattle.counter_runs.specs.Closing.{CanClose}
use Rattle.closing_times.specs.Closing.{ClosesFrom}
use Rattle.losses.specs.declared.loss.Loss.{Loss}
use Rattle.losses.specs.Told.{LoseWithin, OthersLoseNothing}
use Rattle.marlowe_analyse.specs.Order.{AreInOrder, StandApart}

-- alarms, and of each a run that ends in it where one is known
abbrev pub Alarms : Type 0
Alarms = List (Alarm × Option (List Transaction))

-- an alarm, and whether it has a run
abbrev pub seen_alarm : Alarm × Option (List Transaction) → SeenAlarm
seen_alarm a = (a.0, is_some a.1)

abbrev pub without_runs : Alarms → List Alarm
without_runs = map (λ (a : Alarm × Option (List Transaction)). a.0)

-- each run ends in its alarm, at its place
abbrev pub EndSo : StateMaps → ContractTree → Alarms → Type 0
EndSo s c = AllByRecursion (λ (a : Alarm × Option (List Transaction)). IfSome a.1 (EndsAt a.0.kind a.0.place s c))

-- the least that a party is paid once all is closed: where one is told, some run closes
abbrev pub LeastsCanCome : List PaidRange → StateMaps → ContractTree → Type 0
LeastsCanCome ranges s c = AllByRecursion (λ (r : PaidRange). IfSome r.least (λ n. CanClose s c)) ranges

-- from when on all can be taken out: from the last timeout, or at once where there is none. It isn't told where a number may leave 128 bits
abbrev pub IsOut : StateMaps → ContractTree → List Alarm → Option (Option ℤ) → Type 0
IsOut s c alarms None = IsSilent alarms Leaves128 → ⊥
IsOut s c alarms (Some time) = (time ≡ last c) × ClosesFrom time s c

-- what parties can lose, and who isn't named loses nothing. It isn't told where a number may leave 128 bits
abbrev pub AreLosses : StateMaps → ContractTree → List Alarm → Option (List Loss) → Type 0
AreLosses s c alarms None = IsSilent alarms Leaves128 → ⊥
AreLosses s c alarms (Some losses) = LoseWithin losses s c × OthersLoseNothing losses s c

-- a kind never comes at a place without an alarm of it, and one without any alarm never comes; alarms stand in order, none twice,
-- and each run ends in its alarm at its place; no run comes to these places of the contract, which stand in order, none below
-- another; what is paid lies in its range, or is nothing; all can be taken out from that time on; and parties lose no more
pub record IsSo (s : StateMaps) (c : ContractTree) (alarms : Alarms) (places : List (List PathStep)) (ranges : List PaidRange) (time : Option (Option ℤ)) (losses : Option (List Loss)) : Type 0 where
  pub comes : NamesWhereItComes (without_runs alarms) s c
  pub leaves : NamesWhereItLeaves (without_runs alarms) s c
  pub warnings : NamesWhatComes (without_runs alarms) s c
  pub numbers : StaysUnlessTold (without_runs alarms) s c
  pub ordered : AreInOrder (without_runs alarms)
  pub runs : EndSo s c alarms
  pub unreached : AreNeverReached places s c
  pub apart : StandApart places
  pub paid : PaysWithinRanges ranges s c
  pub unpaid : PaysOthersNothing ranges s c
  pub leasts : LeastsCanCome ranges s c
  pub out : IsOut s c (without_runs alarms) time
  pub down : AreLosses s c (without_runs alarms) losses

-- no transaction of any run warns, and none is refused because a number leaves 128 bits
abbrev pub NeverAlarms : StateMaps → ContractTree → Type 0
NeverAlarms s c = ((kind : AlarmKind) → NeverWarns kind s c) × StaysWithin128 s c

-- the text of a state, if one is given
abbrev pub text_given : Option (Bor (List ℕ)) → Option (List ℕ)
text_given state = option_map (λ text. text.now) state
