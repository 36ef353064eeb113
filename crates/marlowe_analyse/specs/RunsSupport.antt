-- What is told of all alarms. It serves proofs alone.
use Rattle.std.specs.Prelude.{◌≡◌, ◌+◌, ◌<◌, ℕ, nat_eq, Bool, if◌then◌else◌, List, [], ◌∷◌, map, All, Contains, get_or, Option, None, is_some, Result, Ok}
use Rattle.std.specs.List.{AllByRecursion, starts_with}
use Rattle.contract.specs.Collections.Answers.{◌>>=◌}
use Rattle.contract.specs.Names.declared.party.Party.{Party}
use Rattle.contract.specs.Tree.{ContractTree}
use Rattle.contract.specs.States.States.{StateMaps}
use Rattle.analysis_spec.specs.declared.alarm.Alarm.{Alarm}
use Rattle.analysis_spec.specs.declared.paid.PaidRange.{PaidRange}
use Rattle.analysis_spec.specs.declared.path.PathStep.{PathStep}
use Rattle.analysis_spec.specs.Analysed.{PaysWithinRanges, PaysOthersNothing}
use Rattle.marlowe_run.specs.JsonReadNames.declared.fault.JsonFault.{JsonFault}
use Rattle.marlowe_run.specs.MarloweRefusals.declared.fault.RunFault.{RunFault}
use Rattle.marlowe_run.specs.MarloweRefusals.Faults.{read_as, state_fault}
use Rattle.marlowe_run.specs.Start.{start_of}
use Rattle.marlowe_analyse.specs.declared.analysed.Analysed.{Analysed}
use Rattle.marlowe_analyse.specs.declared.analysed.Telling.{Telling}
use Rattle.marlowe_analyse.specs.declared.order.Standing.{Standing}
use Rattle.analysis_lines.specs.declared.told.ToldAlarm.{ToldAlarm}
use Rattle.marlowe_analyse.specs.declared.unreached.Spot.{Spot}
use Rattle.places.specs.declared.key.Key.{Key}
use Rattle.places.specs.Places.{path_keys}
use Rattle.marlowe_analyse.specs.Order.{place_key, AreInOrder, StandApart}
use Rattle.marlowe_analyse.specs.OrderSupport.{IsUpTo}
use Rattle.marlowe_analyse.specs.Told.{Alarms, seen_alarm, without_runs, EndSo}
use Rattle.analysis_lines.specs.ToldLines.{line_at, line_of, LineFits}
use Rattle.marlowe_analyse.specs.OnceSupport.{seen_told}
use Rattle.marlowe_analyse.specs.Keeping.{TellsFor}

-- what is told of alarms, each of them: with runs that end in them, which JSON has
pub record AreTold (s : StateMaps) (c : ContractTree) (told : List ToldAlarm) (all : Alarms) : Type 0 where
  pub lines : map line_of told ≡ map (line_at c) all
  pub seen : map seen_told told ≡ map seen_alarm all
  pub ends : EndSo s c all
  pub fit : All LineFits told

-- .. of those before an index: all of them, in order
pub record TellsOf (s : StateMaps) (c : ContractTree) (standings : List Standing) (n : ℕ) (told : List ToldAlarm) : Type 0 where
  pub all : Alarms
  pub so : AreTold s c told all
  pub has : (i : ℕ) (t : Standing) → i < n → t ≡ get_or standings i t → Contains (without_runs all) t.alarm.now
  pub ordered : AreInOrder (without_runs all)
  pub up_to : (i : ℕ) (t : Standing) → i + 1 ≡ n → t ≡ get_or standings i t → AllByRecursion (IsUpTo t.key.items) (without_runs all)
  pub none : n ≡ 0 → all ≡ []

-- .. of all alarms
pub record TellsAll (s : StateMaps) (c : ContractTree) (alarms : List Alarm) (told : List ToldAlarm) : Type 0 where
  pub all : Alarms
  pub so : AreTold s c told all
  pub has : (a : Alarm) → Contains alarms a → Contains (without_runs all) a
  pub ordered : AreInOrder (without_runs all)

-- ---- parts to which no run comes

-- the keys of places, each of them one of these
pub record TellPlaces (places : List (List PathStep)) (told : List (List Key)) : Type 0 where
  pub all : List (List PathStep)
  pub keys : told ≡ map path_keys all
  pub among : AllByRecursion (Contains places) all
  pub apart : StandApart all

-- a place that stands among others is one of these, and has its numbers
pub record IsSpotOf (places : List (List PathStep)) (s : Spot) : Type 0 where
  pub one : Contains places s.place.now
  pub numbers : s.key.items ≡ place_key s.place.now

-- whether one lies below another, or is that one
abbrev pub lies_below : Spot → Spot → Bool
lies_below above s = starts_with nat_eq s.key.items above.key.items

-- those that don't lie below the one that was kept last
abbrev pub kept_behind : Spot → List Spot → List Spot
kept_behind last [] = []
kept_behind last (s ∷ ss) = if lies_below last s then kept_behind last ss else s ∷ kept_behind s ss

abbrev pub kept : List Spot → List Spot
kept [] = []
kept (s ∷ ss) = s ∷ kept_behind s ss

-- ---- what parties are paid

-- a range without its least
abbrev pub without_least : PaidRange → PaidRange
without_least r = record r { least = None }

-- what ranges promise
pub record HoldRanges (s : StateMaps) (c : ContractTree) (ranges : List PaidRange) : Type 0 where
  pub paid : PaysWithinRanges ranges s c
  pub unpaid : PaysOthersNothing ranges s c

-- ---- a contract, and the state from which it starts

abbrev pub TellsFrom : Telling → Option Party → Bool → ContractTree → Result StateMaps JsonFault → Bool → Bool → List ℕ → Type 0
TellsFrom telling party given c start clear unreached out = (s : StateMaps) → start ≡ Ok s → TellsFor telling party given s c clear unreached out

-- .. that starts in the state of a text, if there is one
abbrev pub AnalysedFrom : Telling → Option Party → Bool → ContractTree → Option (List ℕ) → Analysed → Type 0
AnalysedFrom telling party texts c start told = TellsFrom telling party (is_some start) c (start_of texts start) told.is_clear told.has_unreached told.text.items

-- or why there is no state
abbrev pub is_started : Result StateMaps JsonFault → Result (Unit {0}) RunFault
is_started start = read_as state_fault start >>= λ _. Ok tt
