-- What is told behind the entries that accepted steps.
use Rattle.std.specs.Prelude.{ℕ, ◌+◌, ℤ, List, [], ◌∷◌, ◌++◌, slice_get, Option, Some, None, codes, decimal}
use Rattle.contract.specs.declared.input.Input.{Input}
use Rattle.contract.specs.declared.interval.Interval.{Interval}
use Rattle.ledger.specs.declared.call.Reply.{Reply}
use Rattle.ledger.specs.declared.call.Reply.TheVariants as replies
use Rattle.ledger.specs.declared.look.ThreadOutput.{ThreadOutput}
use Rattle.play_objects.specs.Plans.declared.intent.Intent.{Intent}
use Rattle.play_objects.specs.Plans.declared.intent.Intent.TheVariants.{Step, Steps}
use Rattle.play_objects.specs.Plans.declared.scenario.NamedThread.{NamedThread}
use Rattle.play_objects.specs.StepNotes.declared.spelling.Spelling.{Spelling}
use Rattle.play_objects.specs.StepNotes.declared.spelling.Spelling.TheVariants.{Lines, Objects}
use Rattle.play_objects.specs.StepNotes.Steps.{step_text}
use Rattle.play_objects.specs.PlayNotes.Intents.{thread_named}
use Rattle.play_objects.specs.PlayNotes.Notes.{put_behind}
use Rattle.play_endings.specs.declared.ending.Ending.{Ending}
use Rattle.play_endings.specs.declared.ending.Ending.TheVariants.{Done}
use Rattle.play_endings.specs.Endings.{PlacedEntry, EndedAt}

-- of a step from the thread that its look showed, over the look's tick
abbrev pub thread_text : Spelling → List ℕ → List Input → Interval → ℤ → Option ThreadOutput → List ℕ
thread_text spelling head inputs i tick None = []
thread_text spelling head inputs i tick (Some t) = step_text spelling head tick i t.published.table t.datum inputs

abbrev pub shown_text : Spelling → List ℕ → List Input → Interval → Reply → List ℕ
shown_text spelling head inputs i (replies.Look look) = thread_text spelling head inputs i look.tick look.thread
shown_text spelling head inputs i reply = []

-- how it begins: with the thread, as an object also with the place of the entry behind which it stands
abbrev pub step_head : Spelling → List NamedThread → ℕ → ℕ → List ℕ
step_head Lines ts thread place = codes "    step " ++ (thread_named (slice_get ts thread) ++ codes ": ")
step_head Objects ts thread place = codes "{\"step\":" ++ (thread_named (slice_get ts thread) ++ (codes ",\"entry\":" ++ (decimal place ++ codes ",")))

-- of a step whose look is the first of a seat's entries
abbrev pub first_text : Spelling → List NamedThread → ℕ → List Input → Interval → ℕ → List PlacedEntry → List ℕ
first_text spelling ts thread inputs i place [] = []
first_text spelling ts thread inputs i place (e ∷ es) = shown_text spelling (step_head spelling ts thread place) inputs i e.entry.reply

abbrev pub behind_first : List PlacedEntry → List PlacedEntry
behind_first [] = []
behind_first (e ∷ es) = es

abbrev pub steps_texts : Spelling → List NamedThread → Interval → ℕ → List (ℕ × List Input) → List PlacedEntry → List ℕ
steps_texts spelling ts i place [] es = []
steps_texts spelling ts i place (s ∷ ss) es = first_text spelling ts s.0 s.1 i place es ++ steps_texts spelling ts i place ss (behind_first es)

-- of an intent that is done at a place, by the entries of its last turn
abbrev pub done_text : Spelling → List NamedThread → Intent ℕ ℕ → ℕ → List PlacedEntry → List ℕ
done_text spelling ts (Step thread inputs interval pooled) place turn = first_text spelling ts thread inputs interval place turn
done_text spelling ts (Steps steps interval pooled) place turn = steps_texts spelling ts interval place steps turn
done_text spelling ts intent place turn = []

-- it stands behind the entry that accepted the transaction
abbrev pub put_text : Spelling → List NamedThread → Intent ℕ ℕ → List PlacedEntry → Ending → List (List ℕ) → List (List ℕ)
put_text spelling ts intent turn (Done n) notes = put_behind n (done_text spelling ts intent n turn) notes
put_text spelling ts intent turn ending notes = notes

abbrev pub put_done : Spelling → List NamedThread → Option (Intent ℕ ℕ) → EndedAt → List (List ℕ) → List (List ℕ)
put_done spelling ts None e notes = notes
put_done spelling ts (Some intent) e notes = put_text spelling ts intent e.turn e.ending notes

-- of these intents, from place n on
abbrev pub put_ended : Spelling → List NamedThread → List (Intent ℕ ℕ) → ℕ → List EndedAt → List (List ℕ) → List (List ℕ)
put_ended spelling ts xs n [] notes = notes
put_ended spelling ts xs n (e ∷ es) notes = put_ended spelling ts xs (n + 1) es (put_done spelling ts (slice_get xs n) e notes)
