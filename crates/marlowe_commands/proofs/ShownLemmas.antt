-- From what a command says to what is printed.
use Rattle.std.proofs.Common.{◌≡◌, ◌⊎◌, ◌∙◌, ℕ, Bool, true, false, List, [], Option, Some, None, Result, Ok, Err, IfOk, inl, inr, refl, sym, ap, subst, codes}
use Rattle.std.specs.Prelude.{◌++◌}
use Rattle.std.proofs.lemmas.Bool.{true≢false}
use Rattle.std.proofs.lemmas.List.{append-nil, append_assoc}
use Rattle.std.proofs.Math.Dec.{eqb}
use Rattle.std.specs.declared.vec.Vec.{Vec}
use Rattle.std.specs.declared.alloc.Global.{Global}
use Rattle.clap.specs.Words.{Row, Text}
use Rattle.serve.specs.JsonMembers.declared.spelling.Spelling.{Spelling}
use Rattle.marlowe_play.specs.MarloweRefusals.declared.fault.Fault.{Fault}
use Rattle.marlowe_play.specs.MarloweRefusals.declared.fault.Fault.TheVariants as fault
use Rattle.marlowe_play.specs.MarloweRefusals.declared.fault.RunFault.{RunFault}
use Rattle.marlowe_play.specs.MarloweRefusals.declared.fault.RunFault.TheVariants as run
use Rattle.marlowe_play.specs.MarloweRefusals.declared.table_fault.TableFault.{TableFault}
use Rattle.marlowe_play.specs.MarloweRefusals.declared.table_fault.TableFault.TheVariants as table
use Rattle.marlowe_play.specs.MarloweRefusals.declared.trace_fault.TraceFault.{TraceFault}
use Rattle.marlowe_play.specs.MarloweRefusals.declared.trace_fault.TraceFault.TheVariants as trace
use Rattle.serve.specs.RefusalObjects.Objects.{refused_line, fault_status, run_status, table_status, trace_status}
use Rattle.refusal_reasons.specs.Reasoned.{IsReasoned}
use Rattle.refusal_reasons.specs.declared.reasoned.Reasoned.{Reasoned}
use Rattle.refusal_reasons.specs.declared.reasoned.Reasoned.TheVariants.{Answer, Refused}
use Rattle.marlowe_run.specs.declared.readable.Readable.{Readable}
use Rattle.serve.specs.MarloweTrace.Traced.{Told}
use Rattle.serve.specs.MarloweNext.declared.asked.Asked.{Asked}
use Rattle.serve.specs.MarloweNext.Question.{Reached}
use Rattle.serve.specs.MarloweAnalyse.declared.analysed.Telling.{Telling}
use Rattle.contract.specs.Names.declared.party.Party.{Party}
use Rattle.marlowe_play.specs.JsonReadNames.declared.fault.JsonFault.{JsonFault}
use Rattle.marlowe_play.specs.JsonReadNames.Parts.{Reading}
use Rattle.marlowe_play.specs.Plans.declared.scenario.Scenario.{Scenario}
use Rattle.marlowe_play.specs.Played.{Wanted}
use Rattle.marlowe_cli.specs.declared.task.Task.{Task}
use Rattle.marlowe_cli.specs.Asked.{IsAsked}
use Rattle.marlowe_play.specs.declared.fault.PlayFault.{PlayFault}
use Rattle.marlowe_play.specs.declared.fault.PlayFault.TheVariants as playing
use Rattle.marlowe_commands.specs.declared.face.Face.{Face}
use Rattle.marlowe_commands.specs.declared.face.Face.TheVariants.{Plain, Explained, Json}
use Rattle.marlowe_commands.specs.declared.printed.Printed.{Printed}
use Rattle.marlowe_commands.specs.Streams.{Streams, streams_of, Saying, Refusal, says, refuses, for_people, for_tools, shown, spelling_of, IsShown, IsStatus, IsWell, Shows, IsForPeople, IsForTools, IsExplained, IsFor, IsHelp, AreNotes, unreadable, with_notes}
use Rattle.marlowe_commands.specs.Tasks.{AsksFor, AsksForAlarms, IsOfLine, IsTrace, MayAlarm, SaysAnalysis, SaysNext, SaysPlay, analysis_status, face_by, face_of, outcomes, stream_of, refusal_by, run_said, table_answer, table_said, trace_said, play_status, play_refusal, well_status, unread_party}
use Rattle.marlowe_commands.proofs.NoteLemmas.{both}
use Rattle.marlowe_commands.proofs.TaskLemmas.{asks_alarms, asks_no_stream, asks_trace, wants_face}

-- nothing behind a text changes nothing
pub with_none : (text other : List ℕ) → text ≡ other → text ≡ other ++ []
with_none text other same = same ∙ sym (append-nil other)

-- what is said is shown, with what is told of it or without it
pub shown_by : {E : Type 0} (face : Face) (Says : Saying → Type 0) (Tells : Spelling → List ℕ → Type 0) (said : Saying) (told : List ℕ)
    (result : Result Printed E) → Says said → (told ≡ []) ⊎ Tells (spelling_of face) told
    → IfOk result (λ printed. (streams_of printed ≡ shown face said told) ⊎ (streams_of printed ≡ shown face said []))
    → IfOk result (λ printed. IsShown face Says Tells (streams_of printed))
shown_by face Says Tells said told (Ok printed) so tells (inl is) = record { said = said; is_said = so; told = told; tells = tells; is = is }
shown_by face Says Tells said told (Ok printed) so tells (inr is) = record { said = said; is_said = so; told = []; tells = inl refl; is = is }
shown_by face Says Tells said told (Err refused) so tells is = tt {0}

-- what a run or a table answers, and what it refuses
module _ {F : Type 0} (printed : Result (List ℕ) F) (Tells : List ℕ → Type 0) (made : Reasoned F) where
  pub answered : (text : Vec ℕ Global) → made ≡ Answer text → IsReasoned printed Tells made → printed ≡ Ok text.items
  answered text is it = subst (IsReasoned printed Tells) is it

  pub refused : (fault : F) (told : Vec ℕ Global) → made ≡ Refused fault told → IsReasoned printed Tells made
      → (printed ≡ Err fault) × ((told.items ≡ []) ⊎ Tells told.items)
  refused fault told is it = subst (IsReasoned printed Tells) is it

-- what is said of it
pub run_answers : (big : Bool) (printed : Result (List ℕ) RunFault) (text told : List ℕ) → printed ≡ Ok text → told ≡ outcomes big text
    → says told 0 ≡ run_said big printed
run_answers big printed text told is same = ap (λ t. says t 0) same ∙ ap (run_said big) (sym is)

pub run_refuses : (big : Bool) (printed : Result (List ℕ) RunFault) (f : RunFault) (said : Saying) → printed ≡ Err f
    → said ≡ refuses [] (refusal_by (fault.Run f)) → said ≡ run_said big printed
run_refuses big printed f said is refused = refused ∙ ap (run_said big) (sym is)

pub table_answers : (face : Face) (printed : Result (List ℕ) TableFault) (text told : List ℕ) → printed ≡ Ok text → told ≡ table_answer face text
    → says told 0 ≡ table_said face printed
table_answers face printed text told is same = ap (λ t. says t 0) same ∙ ap (table_said face) (sym is)

pub table_refuses : (face : Face) (printed : Result (List ℕ) TableFault) (f : TableFault) (said : Saying) → printed ≡ Err f
    → said ≡ refuses [] (refusal_by (fault.Table f)) → said ≡ table_said face printed
table_refuses face printed f said is refused = refused ∙ ap (table_said face) (sym is)

-- the line of a refusal behind a text, with what is told of it or without it
pub line_behind : (text members told line whole : List ℕ) (status : ℕ) (people : List ℕ × ℕ) (slice other : List ℕ) (streams : Streams)
    → slice ≡ members → other ≡ line → (line ≡ refused_line slice told) ⊎ (line ≡ refused_line slice []) → whole ≡ text ++ other
    → streams ≡ (whole, [], status)
    → (streams ≡ for_tools text (people, (members, status)) told) ⊎ (streams ≡ for_tools text (people, (members, status)) [])
line_behind text members told line whole status people slice other streams same as_line (inl is) behind shown =
    inl (shown ∙ ap (λ (w : List ℕ). (w, [], status)) (behind ∙ ap (λ l. text ++ l) (as_line ∙ (is ∙ ap (λ m. refused_line m told) same))))
line_behind text members told line whole status people slice other streams same as_line (inr is) behind shown =
    inr (shown ∙ ap (λ (w : List ℕ). (w, [], status)) (behind ∙ ap (λ l. text ++ l) (as_line ∙ (is ∙ ap (λ m. refused_line m []) same))))

-- ---- sayings are well formed

pub run_status_is : (f : RunFault) → (run_status f ≡ 1) ⊎ (run_status f ≡ 4)
run_status_is (run.Contract f) = inr refl
run_status_is (run.State f) = inr refl
run_status_is (run.Transaction f) = inr refl
run_status_is (run.Semantics f) = inl refl
run_status_is (run.Write f) = inl refl
run_status_is run.Memory = inl refl

table_status_is : (f : TableFault) → (table_status f ≡ 1) ⊎ (table_status f ≡ 4)
table_status_is (table.Contract f) = inr refl
table_status_is (table.Compile f) = inl refl
table_status_is table.Memory = inl refl

trace_status_is : (f : TraceFault) → (trace_status f ≡ 1) ⊎ (trace_status f ≡ 4)
trace_status_is (trace.Run f) = run_status_is f
trace_status_is (trace.Text number f) = inr refl
trace_status_is trace.TooMany = inr refl
trace_status_is (trace.Refused number f) = inl refl

status_is : (f : Fault) → (fault_status f ≡ 1) ⊎ (fault_status f ≡ 4)
status_is (fault.Run f) = run_status_is f
status_is (fault.Table f) = table_status_is f
status_is (fault.Trace f) = trace_status_is f

refusal_is : (f : Fault) → IsStatus (refusal_by f)
refusal_is f = inl (refl, status_is f)

run_well : (big : Bool) (r : Result (List ℕ) RunFault) → IsWell ⊥ ⊥ (run_said big r)
run_well big (Ok text) = inl refl
run_well big (Err f) = (inl refl, refusal_is (fault.Run f))

table_well : (face : Face) (r : Result (List ℕ) TableFault) → IsWell ⊥ ⊥ (table_said face r)
table_well face (Ok text) = inl refl
table_well face (Err f) = (inl refl, refusal_is (fault.Table f))

trace_well : (big : Bool) (r : Result Told TraceFault) → IsWell ⊥ (Unit {0}) (trace_said big r)
trace_well big (Ok (text, None)) = inl refl
trace_well big (Ok (text, Some f)) = (inr (tt {0}), refusal_is (fault.Trace f))
trace_well big (Err f) = (inl refl, refusal_is (fault.Trace f))

next_well : (asked : Asked) (reached : Result Reached TraceFault) (said : Saying) → SaysNext asked reached said → IsWell ⊥ ⊥ said
next_well asked reached said (inl (text, is, answer)) = subst (IsWell ⊥ ⊥) (sym is) (inl refl)
next_well asked reached said (inr (f, none, is)) = subst (IsWell ⊥ ⊥) (sym is) (inl refl, refusal_is (fault.Trace f))

alarm_status : (strict clear unreached : Bool) → (analysis_status strict clear unreached ≡ 0) ⊎ Unit {0} × (analysis_status strict clear unreached ≡ 3)
alarm_status strict false unreached = inr (tt {0}, refl)
alarm_status false true unreached = inl refl
alarm_status true true false = inl refl
alarm_status true true true = inr (tt {0}, refl)

analysis_well : (telling : Telling) (strict : Bool) (readable : Readable) (contract : List ℕ) (state : Option (List ℕ)) (party : Option Party) (said : Saying)
    → SaysAnalysis telling strict readable contract state party said → IsWell (Unit {0}) ⊥ said
analysis_well telling strict readable contract state party said (inl (clear, unreached, text, is, told)) =
    subst (IsWell (Unit {0}) ⊥) (sym is) (alarm_status strict clear unreached)
analysis_well telling strict readable contract state party said (inr (f, unread, is)) = subst (IsWell (Unit {0}) ⊥) (sym is) (inl refl, refusal_is (fault.Run f))

play_status_is : (f : PlayFault) → (play_status f ≡ 1) ⊎ (play_status f ≡ 4)
play_status_is (playing.Scenario f) = inr refl
play_status_is (playing.Setup refusal) = inl refl
play_status_is playing.Memory = inl refl

well_status_is : (well : Bool) → (well_status well ≡ 0) ⊎ Unit {0} × (well_status well ≡ 3)
well_status_is true = inl refl
well_status_is false = inr (tt {0}, refl)

play_well : (big : Bool) (reading : Reading Scenario) (wanted : Wanted) (said : Saying) → SaysPlay big reading wanted said → IsWell (Unit {0}) ⊥ said
play_well big reading wanted said (inl (well, text, is, answer)) = subst (IsWell (Unit {0}) ⊥) (sym is) (well_status_is well)
play_well big reading wanted said (inr (f, is)) = subst (IsWell (Unit {0}) ⊥) (sym is) (inl refl, inl (refl, play_status_is f))

-- ---- what is shown shows a saying that is well formed

no_notes : (streams : Streams) → streams ≡ with_notes [] streams
no_notes (output, errors, status) = ap (λ text. (output, text, status)) (sym (append-nil errors))

two_notes : (first second : List ℕ) (streams : Streams) → with_notes second (with_notes first streams) ≡ with_notes (first ++ second) streams
two_notes first second (output, errors, status) = ap (λ text. (output, text, status)) (append_assoc errors first second)

pub shows : (face : Face) (alarms outcomes : Type 0) (Says : Saying → Type 0) (Tells : Spelling → List ℕ → Type 0) (streams : Streams)
    → ((said : Saying) → Says said → IsWell alarms outcomes said) → IsShown face Says Tells streams → Shows face alarms outcomes streams
shows face alarms outcomes Says Tells streams well it =
    record { said = it.said; is_well = well it.said it.is_said; told = it.told; notes = []; are_notes = ([], refl); are_explained = inl refl; is = it.is ∙ no_notes (shown face it.said it.told) }

-- .. with notes behind it
noted : (face : Face) (alarms outcomes : Type 0) (plain streams : Streams) (notes : List ℕ) → AreNotes notes → Shows face alarms outcomes plain
    → face ≡ Explained → streams ≡ with_notes notes plain → Shows face alarms outcomes streams
noted face alarms outcomes plain streams notes are it explained is =
    record {
      said = it.said;
      is_well = it.is_well;
      told = it.told;
      notes = it.notes ++ notes;
      are_notes = both it.notes notes it.are_notes are;
      are_explained = inr explained;
      is = is ∙ ap (with_notes notes) it.is ∙ two_notes it.notes notes (shown face it.said it.told);
    }

pub noted_by : (face : Face) (alarms outcomes : Type 0) (plain : Streams) (notes : List ℕ) (streams : Streams) → Shows face alarms outcomes plain
    → AreNotes notes → (face ≡ Explained) × (streams ≡ with_notes notes plain) ⊎ (streams ≡ plain) → Shows face alarms outcomes streams
noted_by face alarms outcomes plain notes streams it are (inl (explained, is)) = noted face alarms outcomes plain streams notes are it explained is
noted_by face alarms outcomes plain notes streams it are (inr same) = subst (Shows face alarms outcomes) (sym same) it

pub run_shows : (face : Face) (big : Bool) (r : Result (List ℕ) RunFault) (Tells : Spelling → List ℕ → Type 0) (streams : Streams)
    → IsShown face (λ said. said ≡ run_said big r) Tells streams → Shows face ⊥ ⊥ streams
run_shows face big r Tells streams it =
    shows face ⊥ ⊥ (λ said. said ≡ run_said big r) Tells streams (λ said is. subst (IsWell ⊥ ⊥) (sym is) (run_well big r)) it

pub table_shows : (face : Face) (r : Result (List ℕ) TableFault) (Tells : Spelling → List ℕ → Type 0) (streams : Streams)
    → IsShown face (λ said. said ≡ table_said face r) Tells streams → Shows face ⊥ ⊥ streams
table_shows face r Tells streams it =
    shows face ⊥ ⊥ (λ said. said ≡ table_said face r) Tells streams (λ said is. subst (IsWell ⊥ ⊥) (sym is) (table_well face r)) it

pub trace_shows : (face : Face) (big : Bool) (r : Result Told TraceFault) (Tells : Spelling → List ℕ → Type 0) (streams : Streams)
    → IsShown face (λ said. said ≡ trace_said big r) Tells streams → Shows face ⊥ (Unit {0}) streams
trace_shows face big r Tells streams it =
    shows face ⊥ (Unit {0}) (λ said. said ≡ trace_said big r) Tells streams (λ said is. subst (IsWell ⊥ (Unit {0})) (sym is) (trace_well big r)) it

pub next_shows : (face : Face) (asked : Asked) (reached : Result Reached TraceFault) (Tells : Spelling → List ℕ → Type 0) (streams : Streams)
    → IsShown face (SaysNext asked reached) Tells streams → Shows face ⊥ ⊥ streams
next_shows face asked reached Tells streams it = shows face ⊥ ⊥ (SaysNext asked reached) Tells streams (next_well asked reached) it

pub analysis_shows : (face : Face) (telling : Telling) (strict : Bool) (readable : Readable) (contract : List ℕ) (state : Option (List ℕ)) (party : Option Party)
    (Tells : Spelling → List ℕ → Type 0) (streams : Streams) → IsShown face (SaysAnalysis telling strict readable contract state party) Tells streams
    → Shows face (Unit {0}) ⊥ streams
analysis_shows face telling strict readable contract state party Tells streams it =
    shows face (Unit {0}) ⊥ (SaysAnalysis telling strict readable contract state party) Tells streams (analysis_well telling strict readable contract state party) it

pub play_shows : (face : Face) (big : Bool) (reading : Reading Scenario) (wanted : Wanted) (Tells : Spelling → List ℕ → Type 0) (streams : Streams)
    → IsShown face (SaysPlay big reading wanted) Tells streams → Shows face (Unit {0}) ⊥ streams
play_shows face big reading wanted Tells streams it =
    shows face (Unit {0}) ⊥ (SaysPlay big reading wanted) Tells streams (play_well big reading wanted) it

-- ---- where more is allowed

well_widened : (alarms outcomes more other : Type 0) → (alarms → more) → (outcomes → other) → (said : Saying) → IsWell alarms outcomes said → IsWell more other said
well_widened alarms outcomes more other f g (says text status) (inl zero) = inl zero
well_widened alarms outcomes more other f g (says text status) (inr (alarm, three)) = inr (f alarm, three)
well_widened alarms outcomes more other f g (refuses text refusal) (inl none, status) = (inl none, status)
well_widened alarms outcomes more other f g (refuses text refusal) (inr some, status) = (inr (g some), status)

pub widened : (face : Face) (alarms outcomes more other : Type 0) (streams : Streams) → (alarms → more) → (outcomes → other) → Shows face alarms outcomes streams
    → Shows face more other streams
widened face alarms outcomes more other streams f g it =
    record { said = it.said; is_well = well_widened alarms outcomes more other f g it.said it.is_well; told = it.told; notes = it.notes; are_notes = it.are_notes; are_explained = it.are_explained; is = it.is }

-- nothing is allowed but what always is
pub widened_from_none : (face : Face) (more other : Type 0) (streams : Streams) → Shows face ⊥ ⊥ streams → Shows face more other streams
widened_from_none face more other streams it = widened face ⊥ ⊥ more other streams (λ none. absurd none) (λ none. absurd none) it

-- ---- a file that can't be read

pub unreadable_shows : (face : Face) (path : List ℕ) (said : Saying) (told : List ℕ) (streams : Streams) → said ≡ refuses [] (unreadable path)
    → (streams ≡ shown face said told) ⊎ (streams ≡ shown face said []) → Shows face ⊥ ⊥ streams
unreadable_shows face path said told streams is (inl same) =
    record { said = said; is_well = subst (IsWell ⊥ ⊥) (sym is) (inl refl, inr (refl, refl)); told = told; notes = []; are_notes = ([], refl); are_explained = inl refl; is = same ∙ no_notes (shown face said told) }
unreadable_shows face path said told streams is (inr same) =
    record { said = said; is_well = subst (IsWell ⊥ ⊥) (sym is) (inl refl, inr (refl, refl)); told = []; notes = []; are_notes = ([], refl); are_explained = inl refl; is = same ∙ no_notes (shown face said []) }

-- so is a party that isn't read
party_well : (f : JsonFault) (said : Saying) → said ≡ refuses [] (unread_party f) → IsWell (Unit {0}) ⊥ said
party_well f said is = subst (IsWell (Unit {0}) ⊥) (sym is) (inl refl, inl (refl, inr refl))

pub party_shows : (face : Face) (f : JsonFault) (Tells : Spelling → List ℕ → Type 0) (streams : Streams)
    → IsShown face (λ said. said ≡ refuses [] (unread_party f)) Tells streams → Shows face (Unit {0}) ⊥ streams
party_shows face f Tells streams it = shows face (Unit {0}) ⊥ (λ said. said ≡ refuses [] (unread_party f)) Tells streams (party_well f) it

-- a text with status 0 is well formed
text_shows : (face : Face) (text : List ℕ) (told : List ℕ) (streams : Streams)
    → (streams ≡ shown face (says text 0) told) ⊎ (streams ≡ shown face (says text 0) []) → Shows face ⊥ ⊥ streams
text_shows face text told streams (inl same) =
    record { said = says text 0; is_well = inl refl; told = told; notes = []; are_notes = ([], refl); are_explained = inl refl; is = same ∙ no_notes (shown face (says text 0) told) }
text_shows face text told streams (inr same) =
    record { said = says text 0; is_well = inl refl; told = []; notes = []; are_notes = ([], refl); are_explained = inl refl; is = same ∙ no_notes (shown face (says text 0) []) }

pub text_shown : {E : Type 0} (face : Face) (text told : List ℕ) (r : Result Printed E)
    → IfOk r (λ p. (streams_of p ≡ shown face (says text 0) told) ⊎ (streams_of p ≡ shown face (says text 0) []))
    → IfOk r (λ p. Shows face ⊥ ⊥ (streams_of p))
text_shown face text told (Ok printed) is = text_shows face text told (streams_of printed) is
text_shown face text told (Err e) is = tt {0}

-- ---- on which streams it is

people : (alarms outcomes : Type 0) (text : List ℕ) (refusal : Refusal) (told : List ℕ) → IsWell alarms outcomes (refuses text refusal)
    → IsForPeople alarms outcomes (for_people text refusal told)
people alarms outcomes text ((line, status), tool) told (before, inl (one, tools)) = inr (inl one, before)
people alarms outcomes text ((line, status), tool) told (before, inr (two, tools)) = inr (inr two, before)

tools : (alarms outcomes : Type 0) (text : List ℕ) (refusal : Refusal) (told : List ℕ) → IsWell alarms outcomes (refuses text refusal)
    → IsForTools alarms (for_tools text refusal told)
tools alarms outcomes text ((line, people), (members, status)) told (before, inl (one, inl is)) = (refl, inr (inl is))
tools alarms outcomes text ((line, people), (members, status)) told (before, inl (one, inr is)) = (refl, inr (inr (inr (inl is))))
tools alarms outcomes text ((line, people), (members, status)) told (before, inr (two, is)) = (refl, inr (inr (inl is)))

text_for_tools : (alarms : Type 0) (status : ℕ) → (status ≡ 0) ⊎ alarms × (status ≡ 3)
    → (status ≡ 0) ⊎ ((status ≡ 1) ⊎ ((status ≡ 2) ⊎ ((status ≡ 4) ⊎ alarms × (status ≡ 3))))
text_for_tools alarms status (inl zero) = inl zero
text_for_tools alarms status (inr three) = inr (inr (inr (inr three)))

for_people_shown : (explain : Bool) (alarms outcomes : Type 0) (said : Saying) (told : List ℕ) → IsWell alarms outcomes said
    → IsForPeople alarms outcomes (shown (face_by false explain) said told)
for_people_shown false alarms outcomes (says text status) told well = inl (well, refl)
for_people_shown true alarms outcomes (says text status) told well = inl (well, refl)
for_people_shown false alarms outcomes (refuses text refusal) told well = people alarms outcomes text refusal [] well
for_people_shown true alarms outcomes (refuses text refusal) told well = people alarms outcomes text refusal told well

for_tools_shown : (alarms outcomes : Type 0) (said : Saying) (told : List ℕ) → IsWell alarms outcomes said → IsForTools alarms (shown Json said told)
for_tools_shown alarms outcomes (says text status) told well = (refl, text_for_tools alarms status well)
for_tools_shown alarms outcomes (refuses text refusal) told well = tools alarms outcomes text refusal told well

explained_with : (alarms outcomes : Type 0) (notes : List ℕ) (streams : Streams) → AreNotes notes → IsForPeople alarms outcomes streams
    → IsExplained alarms outcomes (with_notes notes streams)
explained_with alarms outcomes notes (output, errors, status) are (inl (told, none)) = inl (told, subst (λ e. AreNotes (e ++ notes)) (sym none) are)
explained_with alarms outcomes notes (output, errors, status) are (inr refused) = inr refused

-- only where it is explained are there notes
abbrev is_explained : Face → Type 0
is_explained Explained = Unit {0}
is_explained other = ⊥

without : (face : Face) (notes : List ℕ) (plain streams : Streams) → (is_explained face → ⊥) → (notes ≡ []) ⊎ (face ≡ Explained)
    → streams ≡ with_notes notes plain → streams ≡ plain
without face notes plain streams other (inl none) is = is ∙ (ap (λ n. with_notes n plain) none ∙ sym (no_notes plain))
without face notes plain streams other (inr explained) is = absurd (other (subst is_explained (sym explained) (tt {0})))

pub on_streams : (face : Face) (alarms outcomes : Type 0) (streams : Streams) → Shows face alarms outcomes streams → IsFor face alarms outcomes streams
on_streams Plain alarms outcomes streams it =
    subst (IsForPeople alarms outcomes) (sym (without Plain it.notes (shown Plain it.said it.told) streams (λ no. no) it.are_explained it.is))
    (for_people_shown false alarms outcomes it.said it.told it.is_well)
on_streams Explained alarms outcomes streams it =
    subst (IsExplained alarms outcomes) (sym it.is)
    (explained_with alarms outcomes it.notes (shown Explained it.said it.told) it.are_notes (for_people_shown true alarms outcomes it.said it.told it.is_well))
on_streams Json alarms outcomes streams it =
    subst (IsForTools alarms) (sym (without Json it.notes (shown Json it.said it.told) streams (λ no. no) it.are_explained it.is))
    (for_tools_shown alarms outcomes it.said it.told it.is_well)

-- ---- alarms have a status of their own

not_three : {X : Type 0} (n : ℕ) → n ≡ 3 → (n ≡ 0) ⊎ ((n ≡ 1) ⊎ ((n ≡ 2) ⊎ (n ≡ 4))) → X
not_three n three (inl zero) = absurd (true≢false (ap (eqb 0) (sym zero ∙ three)))
not_three n three (inr (inl one)) = absurd (true≢false (ap (eqb 1) (sym one ∙ three)))
not_three n three (inr (inr (inl two))) = absurd (true≢false (ap (eqb 2) (sym two ∙ three)))
not_three n three (inr (inr (inr four))) = absurd (true≢false (ap (eqb 4) (sym four ∙ three)))

text_alarmed : (alarms : Type 0) (status : ℕ) → (status ≡ 0) ⊎ alarms × (status ≡ 3) → status ≡ 3 → alarms
text_alarmed alarms status (inl zero) three = not_three status three (inl zero)
text_alarmed alarms status (inr (alarm, is)) three = alarm

people_alarmed : {X : Type 0} (text : List ℕ) (refusal : Refusal) (told : List ℕ) → IsStatus refusal → (for_people text refusal told).2 ≡ 3 → X
people_alarmed text ((line, status), tool) told (inl (one, tools)) three = not_three status three (inr (inl one))
people_alarmed text ((line, status), tool) told (inr (two, tools)) three = not_three status three (inr (inr (inl two)))

tools_alarmed : {X : Type 0} (text : List ℕ) (refusal : Refusal) (told : List ℕ) → IsStatus refusal → (for_tools text refusal told).2 ≡ 3 → X
tools_alarmed text ((line, people), (members, status)) told (inl (one, inl is)) three = not_three status three (inr (inl is))
tools_alarmed text ((line, people), (members, status)) told (inl (one, inr is)) three = not_three status three (inr (inr (inr is)))
tools_alarmed text ((line, people), (members, status)) told (inr (two, is)) three = not_three status three (inr (inr (inl is)))

alarmed : (face : Face) (alarms outcomes : Type 0) (said : Saying) (told : List ℕ) → IsWell alarms outcomes said → (shown face said told).2 ≡ 3 → alarms
alarmed face alarms outcomes (says text status) told well three = text_alarmed alarms status well three
alarmed Plain alarms outcomes (refuses text refusal) told (before, status) three = people_alarmed text refusal [] status three
alarmed Explained alarms outcomes (refuses text refusal) told (before, status) three = people_alarmed text refusal told status three
alarmed Json alarms outcomes (refuses text refusal) told (before, status) three = tools_alarmed text refusal told status three

same_status : (notes : List ℕ) (streams : Streams) → (with_notes notes streams).2 ≡ streams.2
same_status notes (output, errors, status) = refl

three_alarms : (face : Face) (alarms outcomes : Type 0) (streams : Streams) → Shows face alarms outcomes streams → streams.2 ≡ 3 → alarms
three_alarms face alarms outcomes streams it three =
    alarmed face alarms outcomes it.said it.told it.is_well
    (sym (same_status it.notes (shown face it.said it.told)) ∙ (sym (ap (λ (s : Streams). s.2) it.is) ∙ three))

-- ---- what the words of a command line print

pub line_shows : (explain : Bool) (words : Option (Text × List Row)) (task : Task) (streams : Streams) → IsAsked words task
    → None ≡ stream_of task → Shows (face_of explain task) (MayAlarm task) (IsTrace task) streams → IsOfLine explain words streams
line_shows explain words task streams asked none it =
    inl (
      face_of explain task,
      asks_no_stream words task asked (sym none),
      wants_face explain words task asked (sym none),
      widened (face_of explain task) (MayAlarm task) (IsTrace task) (AsksForAlarms words) (AsksFor (codes "trace") words) streams
          (asks_alarms words task asked) (asks_trace words task asked) it,
    )

pub line_alarms : (explain : Bool) (words : Option (Text × List Row)) (task : Task) (streams : Streams) → IsAsked words task
    → Shows (face_of explain task) (MayAlarm task) (IsTrace task) streams → streams.2 ≡ 3 → AsksForAlarms words
line_alarms explain words task streams asked it three =
    asks_alarms words task asked (three_alarms (face_of explain task) (MayAlarm task) (IsTrace task) streams it three)

pub help_alarms : (words : Option (Text × List Row)) (streams : Streams) → IsHelp streams → streams.2 ≡ 3 → AsksForAlarms words
help_alarms words (output, errors, status) (inl (zero, none)) three = not_three status three (inl zero)
help_alarms words (output, errors, status) (inr (two, none)) three = not_three status three (inr (inr (inl two)))
