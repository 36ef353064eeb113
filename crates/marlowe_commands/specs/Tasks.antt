-- What each command says.
use Rattle.std.specs.Prelude.{◌≡◌, ◌⊎◌, ◌≤◌, ◌&&◌, ◌||◌, ℕ, Bool, true, false, not, if◌then◌else◌, List, [], ◌++◌, Option, Some, None, Result, Ok, Err, codes}
use Rattle.clap.specs.Words.{Row, Text, one_of}
use Rattle.marlowe_play.specs.JsonReadNames.declared.fault.JsonFault.{JsonFault}
use Rattle.marlowe_play.specs.MarloweRefusals.declared.fault.Fault.{Fault}
use Rattle.marlowe_play.specs.MarloweRefusals.declared.fault.Fault.TheVariants as fault
use Rattle.marlowe_play.specs.MarloweRefusals.declared.fault.RunFault.{RunFault}
use Rattle.marlowe_play.specs.MarloweRefusals.declared.table_fault.TableFault.{TableFault}
use Rattle.marlowe_play.specs.MarloweRefusals.declared.trace_fault.TraceFault.{TraceFault}
use Rattle.marlowe_play.specs.MarloweRefusals.Refusals.{json_fault_name, refusal_text}
use Rattle.serve.specs.RefusalObjects.Objects.{fault_members, fault_status, named}
use Rattle.marlowe_play.specs.SetupRefusals.SetupRefusals.{setup_members}
use Rattle.serve.specs.LineObjects.Objects.{lines_object}
use Rattle.big_texts.specs.Lines.{big_as_text}
use Rattle.marlowe_run.specs.declared.readable.Readable.{Readable}
use Rattle.serve.specs.MarloweTrace.Traced.{Told}
use Rattle.serve.specs.MarloweNext.declared.asked.Asked.{Asked}
use Rattle.serve.specs.MarloweNext.Answer.{IsAnswer}
use Rattle.serve.specs.MarloweNext.Question.{Reached, answered}
use Rattle.serve.specs.MarloweAnalyse.declared.analysed.Telling.{Telling}
use Rattle.serve.specs.MarloweAnalyse.Keeping.{TellsSo}
use Rattle.serve.specs.MarloweAnalyse.Printed.{is_read}
use Rattle.marlowe_play.specs.JsonReadNames.Parts.{Reading}
use Rattle.marlowe_play.specs.JsonReadNames.ReadsNames.{party}
use Rattle.marlowe_play.specs.JsonReadNames.ReadsText.{of_text}
use Rattle.contract.specs.Names.declared.party.Party.{Party}
use Rattle.contract.specs.Collections.Answers.{◌>>=◌}
use Rattle.marlowe_play.specs.Plans.declared.scenario.Scenario.{Scenario}
use Rattle.marlowe_play.specs.Faults.{play_refusal_text}
use Rattle.marlowe_play.specs.Played.{IsAnswered, Wanted}
use Rattle.marlowe_play.specs.declared.fault.PlayFault.{PlayFault}
use Rattle.marlowe_play.specs.declared.fault.PlayFault.TheVariants as playing
use Rattle.serve.specs.RefusalReasons.declared.source.Over.{Over}
use Rattle.marlowe_cli.specs.declared.task.Task.{Task}
use Rattle.marlowe_cli.specs.declared.task.Task.TheVariants.{Run, Trace, Next, Table, Analyse, Play, Serve}
use Rattle.marlowe_cli.specs.Asked.{IsDepth, IsFlag}
use Rattle.marlowe_commands.specs.declared.answer.Command.{Command}
use Rattle.marlowe_commands.specs.declared.answer.Command.TheVariants as command
use Rattle.marlowe_commands.specs.declared.face.Face.{Face}
use Rattle.marlowe_commands.specs.declared.face.Face.TheVariants.{Plain, Explained, Json}
use Rattle.marlowe_commands.specs.Streams.{Saying, Refusal, Streams, says, refuses, streams_of, IsFor, Shows, IsHelp}

-- a fault: for people its line, with status 1
abbrev pub refusal_by : Fault → Refusal
refusal_by f = ((refusal_text f, 1), (fault_members f, fault_status f))

-- the lines of outcomes, or of a play for tools, with their big numbers as texts where they are wanted so
abbrev pub outcomes : Bool → List ℕ → List ℕ
outcomes big text = if big then big_as_text text else text

-- the outcome, or its refusal
abbrev pub run_said : Bool → Result (List ℕ) RunFault → Saying
run_said big (Ok text) = says (outcomes big text) 0
run_said big (Err f) = refuses [] (refusal_by (fault.Run f))

-- the outcomes, and behind them the refusal of the transaction that ends them, if one does; or why none is computed
abbrev pub trace_said : Bool → Result Told TraceFault → Saying
trace_said big (Ok (text, None)) = says (outcomes big text) 0
trace_said big (Ok (text, Some f)) = refuses (outcomes big text) (refusal_by (fault.Trace f))
trace_said big (Err f) = refuses [] (refusal_by (fault.Trace f))

-- the answer to what is asked where transactions have led, or why there is none
abbrev pub SaysNext : Asked → Result Reached TraceFault → Saying → Type 0
SaysNext asked reached said =
    ((text : List ℕ) × (said ≡ says text 0) × IsAnswer asked reached text)
    ⊎ ((f : TraceFault) × (answered asked reached ≡ Err f) × (said ≡ refuses [] (refusal_by (fault.Trace f))))

-- for tools the lines of a table are texts of a list, `{"lines":[..]}`
abbrev pub table_answer : Face → List ℕ → List ℕ
table_answer Plain text = text
table_answer Explained text = text
table_answer Json text = lines_object text

abbrev pub table_said : Face → Result (List ℕ) TableFault → Saying
table_said face (Ok text) = says (table_answer face text) 0
table_said face (Err f) = refuses [] (refusal_by (fault.Table f))

-- 3 where there is an alarm, or strictly also where a part is told that no run reaches; else 0
abbrev pub analysis_status : Bool → Bool → Bool → ℕ
analysis_status strict clear unreached = if clear && not (strict && unreached) then 0 else 3

-- the analysis, for a party if one is asked about, with this status; or the refusal of the first text that isn't read
abbrev pub SaysAnalysis : Telling → Bool → Readable → List ℕ → Option (List ℕ) → Option Party → Saying → Type 0
SaysAnalysis telling strict readable contract state party said =
    ((clear unreached : Bool) × (text : List ℕ) × (said ≡ says text (analysis_status strict clear unreached)) × TellsSo telling party readable contract state clear unreached text)
    ⊎ ((f : RunFault) × (is_read readable contract state ≡ Err f) × (said ≡ refuses [] (refusal_by (fault.Run f))))

-- the party that a text stands for, if there is a text
abbrev pub party_given : Option (List ℕ) → Reading (Option Party)
party_given None = Ok None
party_given (Some text) = of_text party text >>= λ p. Ok (Some p)

-- a text that stands for none
abbrev pub unread_party : JsonFault → Refusal
unread_party f = ((codes "refused party " ++ json_fault_name f, 1), (named (codes "party") (json_fault_name f), 4))

-- why a scenario isn't played: its text isn't read, or its setup has a fault
abbrev pub play_members : PlayFault → List ℕ
play_members (playing.Scenario f) = named (codes "scenario") (json_fault_name f)
play_members (playing.Setup refusal) = setup_members refusal
play_members playing.Memory = named (codes "memory") (codes "Memory")

abbrev pub play_status : PlayFault → ℕ
play_status (playing.Scenario f) = 4
play_status (playing.Setup refusal) = 1
play_status playing.Memory = 1

abbrev pub play_refusal : PlayFault → Refusal
play_refusal f = ((play_refusal_text f, 1), (play_members f, play_status f))

-- 3 where it is asked whether all went well and not all did; else 0
abbrev pub well_status : Bool → ℕ
well_status well = if well then 0 else 3

-- a play of the scenario, with this status, or why it isn't played
abbrev pub SaysPlay : Bool → Reading Scenario → Wanted → Saying → Type 0
SaysPlay big reading wanted said =
    ((well : Bool) × (text : List ℕ) × (said ≡ says (outcomes big text) (well_status well)) × IsAnswered reading wanted text well)
    ⊎ ((f : PlayFault) × (said ≡ refuses [] (play_refusal f)))

-- the interval that is asked about
abbrev pub over_of : Asked → Over
over_of asked = record { from = asked.from; to = asked.to }

-- ---- which task it is

-- a status of 3 is for an analysis and for a play
abbrev pub MayAlarm : Task → Type 0
MayAlarm (Analyse task) = Unit {0}
MayAlarm (Play task) = Unit {0}
MayAlarm other = ⊥

abbrev pub IsTrace : Task → Type 0
IsTrace (Trace task) = Unit {0}
IsTrace other = ⊥

-- what shows a saying of a task is on these streams
abbrev pub ShowsOnStreams : Type 0
ShowsOnStreams = (face : Face) (task : Task) (streams : Streams) → Shows face (MayAlarm task) (IsTrace task) streams → IsFor face (MayAlarm task) (IsTrace task) streams

-- the words of a command line ask for the command of this name
abbrev pub AsksFor : Text → Option (Text × List Row) → Type 0
AsksFor name None = ⊥
AsksFor name (Some (asked, words)) = asked ≡ name

-- .. for one that may have status 3
abbrev pub AsksForAlarms : Option (Text × List Row) → Type 0
AsksForAlarms words = AsksFor (codes "analyse") words ⊎ AsksFor (codes "play") words

-- JSON where it is wanted, and else explanations for people, or their line alone
abbrev pub face_by : Bool → Bool → Face
face_by true explain = Json
face_by false true = Explained
face_by false false = Plain

-- how a task wants it shown; explanations also where they are wanted anyhow
abbrev pub face_of : Bool → Task → Face
face_of explain (Run task) = face_by task.json (explain || task.explain)
face_of explain (Trace task) = face_by task.json (explain || task.explain)
face_of explain (Next task) = face_by task.json (explain || task.explain)
face_of explain (Table task) = face_by task.json (explain || task.explain)
face_of explain (Analyse task) = face_by task.json (explain || task.explain)
face_of explain (Play task) = face_by task.json (explain || task.explain)
face_of explain (Serve task) = Plain

-- how the words of a command line want it, by their flags
pub record WantsFace (explain : Bool) (words : List Row) (face : Face) : Type 0 where
  pub json : Bool
  pub explained : Bool
  pub json_flag : IsFlag (one_of (codes "json") words) json
  pub explain_flag : IsFlag (one_of (codes "explain") words) explained
  pub is : face ≡ face_by json (explain || explained)

abbrev pub WantsFaceIn : Bool → Option (Text × List Row) → Face → Type 0
WantsFaceIn explain None face = ⊥
WantsFaceIn explain (Some (name, words)) face = WantsFace explain words face

-- what the words of a command line print: what their command says, which is no stream, shown as they want it; or, where they ask for none, help or
-- what is wrong
abbrev pub IsOfLine : Bool → Option (Text × List Row) → Streams → Type 0
IsOfLine explain words streams =
    ((face : Face) × (AsksFor (codes "serve") words → ⊥) × WantsFaceIn explain words face
    × Shows face (AsksForAlarms words) (AsksFor (codes "trace") words) streams)
    ⊎ IsHelp streams

-- ---- streams of requests

-- what is readable in a stream, for a task that is one
abbrev pub stream_of : Task → Option Readable
stream_of (Serve task) = Some (record { depth = task.depth; text_numbers = task.text_numbers })
stream_of other = None

-- the words of a command line ask for a stream of requests in which this is readable
abbrev pub AsksForStream : Option (Text × List Row) → Readable → Type 0
AsksForStream None readable = ⊥
AsksForStream (Some (name, words)) readable = (name ≡ codes "serve") × IsDepth (one_of (codes "depth") words) readable.depth
    × IsFlag (one_of (codes "text-numbers") words) readable.text_numbers

-- ---- what becomes of a command line

-- it is printed, or a stream is served
abbrev pub IsAnswerTo : Bool → Option (Text × List Row) → Command → Type 0
IsAnswerTo explain words (command.Printed printed) = IsOfLine explain words (streams_of printed)
IsAnswerTo explain words (command.Serve readable) = AsksForStream words readable

-- what is printed has the status of alarms
abbrev pub HasAlarms : Command → Type 0
HasAlarms (command.Printed printed) = printed.status ≡ 3
HasAlarms (command.Serve readable) = ⊥

-- a stream's texts nest at most so deep
abbrev pub NestsAtMost : ℕ → Command → Type 0
NestsAtMost most (command.Printed printed) = Unit {0}
NestsAtMost most (command.Serve readable) = readable.depth ≤ most
