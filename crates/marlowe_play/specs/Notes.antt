-- What is told of a play, in lines or as objects: behind its entries, and of the intents of its plans.
use Rattle.std.specs.Prelude.{ℕ, ◌+◌, ◌-◌, List, map, [], ◌∷◌, ◌++◌, length, slice_get, Option, Some, None}
use Rattle.play_endings.specs.Ledger.declared.call.Entry.{Entry}
use Rattle.play_endings.specs.Ledger.declared.call.Reply.{Reply}
use Rattle.play_endings.specs.Ledger.declared.call.Reply.TheVariants as replies
use Rattle.play_endings.specs.Ledger.declared.look.Unspent.{Unspent}
use Rattle.play_endings.specs.Plans.declared.intent.Intent.{Intent}
use Rattle.play_endings.specs.Plans.declared.plan.Plan.{Plan}
use Rattle.play_endings.specs.Plans.declared.scenario.NamedThread.{NamedThread}
use Rattle.play_endings.specs.Plans.declared.scenario.Scenario.{Scenario as ScenarioRead}
use Rattle.parties.specs.declared.left_out.LeftOut.{LeftOut}
use Rattle.play_endings.specs.PlayNotes.Intents.{is_no_thread, unbuilt_text}
use Rattle.play_setup.specs.BuilderSpec.declared.fault.BuildFault.{BuildFault}
use Rattle.play_setup.specs.PlayLines.PlayLines.{ThreadLine}
use Rattle.play_endings.specs.PlayNotes.Notes.{notes_of, noted_lines, put_behind}
use Rattle.play_endings.specs.PlayHoldings.declared.holding.Holding.{Holding}
use Rattle.play_endings.specs.PlayHoldings.HoldingLines.{holding_lines}
use Rattle.play_endings.specs.StepNotes.declared.spelling.Spelling.{Spelling}
use Rattle.play_endings.specs.StepNotes.declared.spelling.Spelling.TheVariants.{Lines, Objects}
use Rattle.play_endings.specs.PlayObjects.EntryObjects.{entry_objects, noted_objects}
use Rattle.play_endings.specs.PlayObjects.HoldingObjects.{holding_objects}
use Rattle.play_endings.specs.PlayObjects.IntentObjects.{unbuilt_object}
use Rattle.play_endings.specs.declared.ending.LeftIntent.{LeftIntent}
use Rattle.play_endings.specs.declared.taken.Taken.{Taken}
use Rattle.play_endings.specs.Endings.{EndedAt, endings, entries_of, taken_in}
use Rattle.play_endings.specs.EndingLines.{plan_lines}
use Rattle.play_endings.specs.StepTexts.{put_ended}

-- ---- of intents that were left out

-- the key outputs that the look at a place showed: they were offered
abbrev pub keys_in : Reply → List Unspent
keys_in (replies.Look look) = look.keys
keys_in reply = []

abbrev pub keys_at : Option Entry → List Unspent
keys_at None = []
keys_at (Some e) = keys_in e.reply

abbrev pub offered_at : List Entry → Option ℕ → List Unspent
offered_at es None = []
offered_at es (Some n) = keys_at (slice_get es n)

-- one on which nothing was built: behind the look at a place
abbrev pub unbuilt_by : Spelling → ScenarioRead → ℕ → Intent ℕ ℕ → List Unspent → BuildFault → List ℕ
unbuilt_by Lines s place intent offered fault = unbuilt_text s.threads s.contracts intent offered fault
unbuilt_by Objects s place intent offered fault = unbuilt_object s.threads s.contracts place intent offered fault

-- .. which is the last of its looks; where there was none, nowhere
abbrev pub put_at : Spelling → ScenarioRead → Option ℕ → Intent ℕ ℕ → List Unspent → BuildFault → List (List ℕ) → List (List ℕ)
put_at spelling s None intent offered fault notes = notes
put_at spelling s (Some place) intent offered fault notes = put_behind place (unbuilt_by spelling s place intent offered fault) notes

abbrev pub put_intent : Spelling → ScenarioRead → List Entry → Option (Intent ℕ ℕ) → LeftOut → List (List ℕ) → List (List ℕ)
put_intent spelling s es None l notes = notes
put_intent spelling s es (Some intent) l notes =
    put_at spelling s (slice_get l.looks.items (length l.looks.items - 1)) intent (offered_at es (slice_get l.looks.items 0)) l.fault notes

-- of each of these intents that was left out
abbrev pub put_left : Spelling → ScenarioRead → List Entry → List (Intent ℕ ℕ) → List LeftOut → List (List ℕ) → List (List ℕ)
put_left spelling s es intents [] notes = notes
put_left spelling s es intents (l ∷ ls) notes = put_left spelling s es intents ls (put_intent spelling s es (slice_get intents l.intent) l notes)

-- ---- of a plan: the first has seat 1

abbrev pub left_intent : LeftOut → LeftIntent
left_intent l = record { intent = l.intent; last_look = slice_get l.looks.items (length l.looks.items - 1); no_thread = is_no_thread l.fault }

abbrev pub plan_ended : List Entry → List Taken → ℕ → Plan ℕ ℕ → List LeftOut → List EndedAt
plan_ended es taken n plan left = endings taken 0 plan.intents (map left_intent left) (entries_of (n + 1) 0 es)

-- what was left out of it, and what its steps did
abbrev pub put_plan : Spelling → ScenarioRead → List Entry → List Taken → ℕ → Option (Plan ℕ ℕ) → List LeftOut → List (List ℕ) → List (List ℕ)
put_plan spelling s es taken n None left notes = notes
put_plan spelling s es taken n (Some plan) left notes =
    put_ended spelling s.threads plan.intents 0 (plan_ended es taken n plan left) (put_left spelling s es plan.intents left notes)

-- how each of its intents ended
abbrev pub plan_told : Spelling → ScenarioRead → List Entry → List Taken → ℕ → Option (Plan ℕ ℕ) → List LeftOut → List ℕ
plan_told spelling s es taken n None left = []
plan_told spelling s es taken n (Some plan) left = plan_lines spelling (n + 1) plan.name s.threads s.contracts plan.intents (plan_ended es taken n plan left)

-- ---- of all plans, the first of these at place n

abbrev pub put_plans : Spelling → ScenarioRead → List Entry → List Taken → ℕ → List (List LeftOut) → List (List ℕ) → List (List ℕ)
put_plans spelling s es taken n [] notes = notes
put_plans spelling s es taken n (left ∷ lefts) notes =
    put_plans spelling s es taken (n + 1) lefts (put_plan spelling s es taken n (slice_get s.plans n) left notes)

abbrev pub marlowe_play : Spelling → ScenarioRead → List Entry → List Taken → ℕ → List (List LeftOut) → List ℕ
marlowe_play spelling s es taken n [] = []
marlowe_play spelling s es taken n (left ∷ lefts) =
    plan_told spelling s es taken n (slice_get s.plans n) left ++ marlowe_play spelling s es taken (n + 1) lefts

-- of entries alone: why something was refused; as objects all of them
abbrev pub notes_by : Spelling → List Entry → List (List ℕ)
notes_by Lines es = notes_of es
notes_by Objects es = entry_objects 0 es

-- behind each entry
abbrev pub notes_with : Spelling → ScenarioRead → List (List LeftOut) → List Entry → List (List ℕ)
notes_with spelling s lefts es = put_plans spelling s es (taken_in 0 es) 0 lefts (notes_by spelling es)

-- a line for each intent of each plan
abbrev pub intents_told : Spelling → ScenarioRead → List (List LeftOut) → List Entry → List ℕ
intents_told spelling s lefts es = marlowe_play spelling s es (taken_in 0 es) 0 lefts

-- ---- all of a play: the entries with what is told behind each, the threads, how intents ended, and who holds what

abbrev pub lines_by : Spelling → List (List ℕ) → List Entry → List ThreadLine → List ℕ
lines_by Lines notes es threads = noted_lines notes es threads
lines_by Objects notes es threads = noted_objects notes (length es) threads

abbrev pub holdings_by : Spelling → List NamedThread → List Holding → List ℕ
holdings_by Lines threads holdings = holding_lines threads holdings
holdings_by Objects threads holdings = holding_objects threads holdings

abbrev pub all_told : Spelling → ScenarioRead → List (List LeftOut) → List Entry → List ThreadLine → List Holding → List ℕ
all_told spelling s lefts es threads holdings =
    lines_by spelling (notes_with spelling s lefts es) es threads ++ (intents_told spelling s lefts es ++ holdings_by spelling s.threads holdings)
