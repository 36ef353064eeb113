-- What is printed of a play that came to its end.
use Rattle.std.specs.Prelude.{◌≡◌, ℕ, ◌-◌, Bool, true, false, ◌&&◌, if◌then◌else◌, List, [], ◌∷◌, map, length, slice_get, Option, Some, None, Ok, Err}
use Rattle.std.specs.List.{All, AllZip}
use Rattle.json_read_names.specs.Parts.{Reading}
use Rattle.play_endings.specs.Plans.declared.plan.Plan.{Plan}
use Rattle.play_endings.specs.Plans.declared.scenario.Scenario.{Scenario as ScenarioRead}
use Rattle.play_endings.specs.Table.Along.{has_cont}
use Rattle.play_endings.specs.Table.Flat.{cont_tree, is_close}
use Rattle.play_endings.specs.EutxoTypes.declared.output_ref.OutputRef.{OutputRef}
use Rattle.play_endings.specs.Roles.declared.published.Published.{Published}
use Rattle.play_endings.specs.Ledger.declared.call.Entry.{Entry}
use Rattle.play_setup.specs.LedgerSpec.declared.step_record.StepRecord.{StepRecord}
use Rattle.play_setup.specs.LedgerSpec.Legal.{IsLegal}
use Rattle.play_setup.specs.LedgerSpec.Records.{AreSteps}
use Rattle.play_setup.specs.LedgerSpec.Replay.{Course, past_of, published, published_at, world}
use Rattle.parties.specs.Hub.Seats.{SeatRecord, AreHeard, answered}
use Rattle.parties.specs.declared.left_out.LeftOut.{LeftOut}
use Rattle.parties.specs.Plays.{PlayedPlan, AreOfPlan, IsLeftOut}
use Rattle.play_setup.specs.PlayLines.PlayLines.{ThreadLine, played_lines}
use Rattle.play_endings.specs.PlayHoldings.declared.holding.Holding.{Holding}
use Rattle.chain_holdings.specs.After.{AreHoldings, AreWhatThereWas}
use Rattle.play_setup.specs.SetUp.{Begun, IsSetUp, course, currencies, key_output, plan_on, start_output}
use Rattle.marlowe_play.specs.Notes.{all_told}
use Rattle.marlowe_play.specs.Strict.{went_well}
use Rattle.play_endings.specs.StepNotes.declared.spelling.Spelling.{Spelling}
use Rattle.play_endings.specs.StepNotes.declared.spelling.Spelling.TheVariants.{Lines}
use Rattle.play_endings.specs.StepNotes.declared.spelling.Spelling.TheVariants as spelled
use Rattle.marlowe_play.specs.declared.asked.Face.{Face}
use Rattle.marlowe_play.specs.declared.asked.Face.TheVariants.{Plain, Explained, Objects}

-- a seat's answers are of a plan, whose threads and contracts are named as the setup made them
abbrev pub PlaysPlan : ScenarioRead → List Begun → Plan ℕ ℕ → SeatRecord → Type 0
PlaysPlan s begun plan seat = AreOfPlan (plan_on (currencies s.contracts) (map start_output begun) plan) seat.answers

-- whether a record's number is one of the table that stands for Close
abbrev pub leaves_close : Published → Option StepRecord → Bool
leaves_close object None = false
leaves_close object (Some x) = has_cont object.table x.number && is_close (cont_tree object.table x.number.0)

-- a thread's line: its name, how many records its steps have, and whether the last of them left Close
pub record IsThreadLine (c : Course) (name : List ℕ) (object : Published) (start : OutputRef) (line : ThreadLine) : Type 0 where
  pub records : List StepRecord
  pub are : AreSteps (published_at (published c.entries)) (past_of (world c)) start records
  pub line_is : line ≡ record { name = name; steps = length records; closed = leaves_close object (slice_get records (length records - 1)) }

-- what was left out of these plans, of each by its seat: by intents of the plan and looks of the seat
abbrev pub AreLeftOut : (Plan ℕ ℕ → PlayedPlan) → List (Plan ℕ ℕ) → List SeatRecord → List (List LeftOut) → Type 0
AreLeftOut named [] [] [] = Unit {0}
AreLeftOut named (plan ∷ plans) (seat ∷ seats) (left ∷ lefts) = All (IsLeftOut (named plan) seat.answers) left × AreLeftOut named plans seats lefts
AreLeftOut named _ _ _ = ⊥

-- a text that tells all: behind its entries stands what steps did, why something was refused and what hindered intents that were left out; behind its lines
-- how each intent ended, and who holds what after the history, which together, token by token, is what the ledger began with. Lines for people and objects
-- for tools tell the same
pub record TellsAll (spelling : Spelling) (s : ScenarioRead) (c : Course) (starts : List OutputRef) (left : List (List LeftOut)) (threads : List ThreadLine) (text : List ℕ) : Type 0 where
  pub holdings : List Holding
  pub after : AreHoldings c starts holdings
  pub together : AreWhatThereWas c holdings
  pub text_is : text ≡ all_told spelling s left c.entries threads holdings

-- the lines alone, or all
abbrev pub IsTold : Face → ScenarioRead → Course → List OutputRef → List (List LeftOut) → List ThreadLine → List ℕ → Type 0
IsTold Plain s c starts left threads text = text ≡ played_lines c.entries threads
IsTold Explained s c starts left threads text = TellsAll Lines s c starts left threads text
IsTold Objects s c starts left threads text = TellsAll spelled.Objects s c starts left threads text

-- what is asked of a play: what is told of it, and whether it went well, where the threads with these names may stay open
pub record Wanted : Type 0 where
  pub face : Face
  pub strict : Bool
  pub kept : List (List ℕ)

abbrev pub wanted : Face → Bool → List (List ℕ) → Wanted
wanted face strict kept = record { face = face; strict = strict; kept = kept }

-- whether it went well, if that was asked
abbrev pub well_by : Wanted → ScenarioRead → List (List LeftOut) → List Entry → List ThreadLine → Bool
well_by w s left entries threads = if w.strict then went_well w.kept s left entries threads else true

-- A PLAY TOLD: the text is the lines of a legal history over the scenario's first outputs and its tick, told as it is to be; and whether it went well is
-- told of that history. Its entries are those that its seats were told of and no others: the first seat set the scenario up, and behind it each plan has
-- one that made its calls. The threads are those that were started, in order
pub record TellsAPlay (s : ScenarioRead) (wanted : Wanted) (text : List ℕ) (well : Bool) : Type 0 where
  pub entries : List Entry
  pub legal : IsLegal (course (map key_output s.genesis) s.tick entries)
  pub first : SeatRecord
  pub parties : List SeatRecord
  pub heard : AreHeard entries (first ∷ parties)
  pub whole : length entries ≡ answered (first ∷ parties)
  pub begun : List Begun
  pub set_up : IsSetUp s begun first.answers
  pub played : AllZip (PlaysPlan s begun) s.plans parties
  pub left : List (List LeftOut)
  pub left_out : AreLeftOut (plan_on (currencies s.contracts) (map start_output begun)) s.plans parties left
  pub threads : List ThreadLine
  pub each : AllZip (λ (b : Begun) (line : ThreadLine).
      IsThreadLine (course (map key_output s.genesis) s.tick entries) b.thread.name b.object (start_output b) line) begun threads
  pub lines : IsTold wanted.face s (course (map key_output s.genesis) s.tick entries) (map start_output begun) left threads text
  pub well_is : well ≡ well_by wanted s left entries threads

-- what is answered of a scenario tells a play of it; of a text that is none, nothing is
abbrev pub IsAnswered : Reading ScenarioRead → Wanted → List ℕ → Bool → Type 0
IsAnswered (Ok s) wanted text well = TellsAPlay s wanted text well
IsAnswered (Err fault) wanted text well = ⊥

abbrev pub face_of : Bool → Face
face_of explain = if explain then Explained else Plain

-- .. where it isn't asked whether it went well
abbrev pub IsPlayed : Reading ScenarioRead → Bool → List ℕ → Type 0
IsPlayed reading explain text = (well : Bool) × IsAnswered reading (wanted (face_of explain) false []) text well
