-- No reader needs this file: what holds while a scenario is played, the invariants behind the clauses.
use Rattle.std.specs.Prelude.{◌≡◌, List, [], ◌∷◌, ◌++◌, map, slice_get, Some, Result, IfOk, Vec}
use Rattle.std.specs.Global.{Global}
use Rattle.std.specs.List.{All, AllZip}
use Rattle.play_endings.specs.EutxoTypes.declared.output_ref.OutputRef.{OutputRef}
use Rattle.play_endings.specs.Roles.declared.published.Published.{Published}
use Rattle.play_setup.specs.LedgerSpec.Replay.{Course}
use Rattle.play_endings.specs.Plans.declared.scenario.NamedThread.{NamedThread}
use Rattle.play_endings.specs.Plans.declared.scenario.Scenario.{Scenario as ScenarioRead}
use Rattle.parties.specs.Hub.Seats.{SeatRecord, AreNumbered, seat_record}
use Rattle.parties.specs.declared.left_out.LeftOut.{LeftOut}
use Rattle.parties.specs.Plays.{PlayedPlan, AreOfPlan, IsLeftOut, added}
use Rattle.play_setup.specs.SetUp.{Begun, IsSetUp, currencies, plan_on, start_output}
use Rattle.play_setup.specs.PlayLines.PlayLines.{ThreadLine}
use Rattle.marlowe_play.specs.Played.{AreLeftOut, IsThreadLine, PlaysPlan}

-- a seat went on by a plan
abbrev pub HasPlayed : PlayedPlan → SeatRecord → SeatRecord → Type 0
HasPlayed plan old new = (new ≡ seat_record old.number (old.answers ++ added old new)) × AreOfPlan plan (added old new)

-- .. and this was left out, unless its party was refused memory
abbrev pub HasEnded : {F : Type 0} → PlayedPlan → SeatRecord → SeatRecord → Result (Vec LeftOut Global) F → Type 0
HasEnded plan old new done = HasPlayed plan old new × IfOk done (λ left. All (IsLeftOut plan (added old new)) left.items)

-- all seats, once a scenario was set up by the first, and each of its plans played by one behind it
pub record WerePlayed (s : ScenarioRead) (outputs : List OutputRef) (seats : List SeatRecord) (left : List (List LeftOut)) : Type 0 where
  pub first : SeatRecord
  pub parties : List SeatRecord
  pub seats_are : seats ≡ first ∷ parties
  pub numbered : AreNumbered 0 seats
  pub begun : List Begun
  pub outputs_are : outputs ≡ map start_output begun
  pub set_up : IsSetUp s begun first.answers
  pub played : AllZip (PlaysPlan s begun) s.plans parties
  pub left_out : AreLeftOut (plan_on (currencies s.contracts) (map start_output begun)) s.plans parties left

-- the lines of these threads, in order
abbrev pub AreLines : Course → List Published → List NamedThread → List OutputRef → List ThreadLine → Type 0
AreLines c objects [] [] [] = Unit {0}
AreLines c objects (t ∷ ts) (start ∷ starts) (line ∷ lines) =
    ((object : Published) × (slice_get objects t.contract ≡ Some object) × IsThreadLine c t.name object start line) × AreLines c objects ts starts lines
AreLines c objects _ _ _ = ⊥
