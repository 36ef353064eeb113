-- What an analysis says of a contract and the state in which it starts, in the promises' words.
use Rattle.std.specs.Prelude.{◌≡◌, ◌≢◌, pos, List, Some}
use Rattle.std.specs.List.{AllByRecursion}
use Rattle.contract.specs.Names.declared.party.Party.{Party}
use Rattle.contract.specs.Names.declared.token.Token.{Token}
use Rattle.contract.specs.Tree.{ContractTree}
use Rattle.contract.specs.States.States.{StateMaps}
use Rattle.analysis_spec.specs.declared.kind.AlarmKind.{AlarmKind}
use Rattle.analysis_spec.specs.declared.kind.AlarmKind.TheVariants.{Leaves128}
use Rattle.analysis_spec.specs.declared.path.PathStep.{PathStep}
use Rattle.analysis_spec.specs.Places.{IsPart}
use Rattle.analysis_spec.specs.Promises.{NeverWarns, NeverWarnsAt, StaysWithin128, NeverLeavesAt, NeverReached, PaysBetween}
use Rattle.analysis_spec.specs.declared.alarm.Alarm.{Alarm}
use Rattle.analysis_spec.specs.declared.paid.PaidRange.{PaidRange}

-- no alarm is of this kind
abbrev pub IsSilent : List Alarm → AlarmKind → Type 0
IsSilent alarms kind = AllByRecursion (λ (a : Alarm). a.kind ≢ kind) alarms

-- a kind that no alarm names never comes
abbrev pub NamesWhatComes : List Alarm → StateMaps → ContractTree → Type 0
NamesWhatComes alarms s c = (kind : AlarmKind) → IsSilent alarms kind → NeverWarns kind s c

-- with no alarm of Leaves128 the contract stays within 128 bits
abbrev pub StaysUnlessTold : List Alarm → StateMaps → ContractTree → Type 0
StaysUnlessTold alarms s c = IsSilent alarms Leaves128 → StaysWithin128 s c

-- no alarm of this kind is at this place
abbrev pub IsSilentAt : List Alarm → AlarmKind → List PathStep → Type 0
IsSilentAt alarms kind place = AllByRecursion (λ (a : Alarm). a.kind ≡ kind → a.place ≢ place) alarms

-- a kind never comes at a place where no alarm names it
abbrev pub NamesWhereItComes : List Alarm → StateMaps → ContractTree → Type 0
NamesWhereItComes alarms s c = (kind : AlarmKind) (place : List PathStep) → IsSilentAt alarms kind place → NeverWarnsAt kind place s c

-- and no number first leaves 128 bits at a place without an alarm of Leaves128
abbrev pub NamesWhereItLeaves : List Alarm → StateMaps → ContractTree → Type 0
NamesWhereItLeaves alarms s c = (place : List PathStep) → IsSilentAt alarms Leaves128 place → NeverLeavesAt place s c

-- each of these places is one of the contract, and no run comes to it
abbrev pub AreNeverReached : List (List PathStep) → StateMaps → ContractTree → Type 0
AreNeverReached places s c = AllByRecursion (λ place. IsPart place c × NeverReached place s c) places

-- what is paid lies in its range
abbrev pub PaysWithinRanges : List PaidRange → StateMaps → ContractTree → Type 0
PaysWithinRanges ranges s c = AllByRecursion (λ (r : PaidRange). PaysBetween r.party r.token r.least r.most s c) ranges

-- no range is of this party and this token
abbrev pub IsUnnamed : List PaidRange → Party → Token → Type 0
IsUnnamed ranges p t = AllByRecursion (λ (r : PaidRange). r.party ≡ p → r.token ≢ t) ranges

-- and nothing is paid where there is no range
abbrev pub PaysOthersNothing : List PaidRange → StateMaps → ContractTree → Type 0
PaysOthersNothing ranges s c = (p : Party) (t : Token) → IsUnnamed ranges p t → PaysBetween p t (Some (pos 0)) (Some (pos 0)) s c
