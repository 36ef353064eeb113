-- The line or the object of each intent of a plan.
use Rattle.std.specs.Prelude.{ℕ, ◌+◌, List, [], ◌∷◌, ◌++◌, slice_get, Option, Some, None, codes, decimal}
use Rattle.play_objects.specs.Plans.declared.intent.Intent.{Intent}
use Rattle.play_objects.specs.Plans.declared.scenario.NamedContract.{NamedContract}
use Rattle.play_objects.specs.Plans.declared.scenario.NamedThread.{NamedThread}
use Rattle.play_objects.specs.PlayNotes.Intents.{quoted, intent_text}
use Rattle.play_objects.specs.StepNotes.declared.spelling.Spelling.{Spelling}
use Rattle.play_objects.specs.StepNotes.declared.spelling.Spelling.TheVariants.{Lines, Objects}
use Rattle.play_objects.specs.IntentObjects.{intent_members}
use Rattle.play_endings.specs.declared.ending.Ending.{Ending}
use Rattle.play_endings.specs.declared.ending.Ending.TheVariants.{Done, NotBuilt, NothingToClaim, Refused, GivenUp, PoolFull, RefusedInRound, Pooled, Backward, Stopped}
use Rattle.play_endings.specs.Endings.{EndedAt}

abbrev pub ending_text : Ending → List ℕ
ending_text (Done n) = codes "done at " ++ decimal n
ending_text NotBuilt = codes "not built"
ending_text NothingToClaim = codes "nothing to claim"
ending_text (Refused n) = codes "refused at " ++ decimal n
ending_text (GivenUp n) = codes "given up at " ++ decimal n
ending_text (PoolFull n) = codes "pool full at " ++ decimal n
ending_text (RefusedInRound n ticket) = codes "refused in round at " ++ (decimal n ++ (codes ", ticket " ++ decimal ticket))
ending_text (Pooled ticket) = codes "in the pool, ticket " ++ decimal ticket
ending_text (Backward n) = codes "backward at " ++ decimal n
ending_text Stopped = codes "stopped"

-- .. as members of an object
abbrev pub at_entry : List ℕ → ℕ → List ℕ
at_entry word n = codes "\"ended\":\"" ++ (word ++ (codes "\",\"entry\":" ++ decimal n))

abbrev pub ending_members : Ending → List ℕ
ending_members (Done n) = at_entry (codes "done") n
ending_members NotBuilt = codes "\"ended\":\"not built\""
ending_members NothingToClaim = codes "\"ended\":\"nothing to claim\""
ending_members (Refused n) = at_entry (codes "refused") n
ending_members (GivenUp n) = at_entry (codes "given up") n
ending_members (PoolFull n) = at_entry (codes "pool full") n
ending_members (RefusedInRound n ticket) = at_entry (codes "refused in round") n ++ (codes ",\"ticket\":" ++ decimal ticket)
ending_members (Pooled ticket) = codes "\"ended\":\"in the pool\",\"ticket\":" ++ decimal ticket
ending_members (Backward n) = at_entry (codes "backward") n
ending_members Stopped = codes "\"ended\":\"stopped\""

-- the plan by this text of its name, the intent, and how it ended
abbrev pub ending_line : List ℕ → List NamedThread → List NamedContract → Intent ℕ ℕ → Ending → List ℕ
ending_line plan ts cs intent ending = codes "plan " ++ (plan ++ (codes " " ++ (intent_text ts cs intent ++ (codes ": " ++ (ending_text ending ++ 10 ∷ [])))))

-- .. as an object, which has the intent's place in the plan as well
abbrev pub ending_object : List ℕ → List NamedThread → List NamedContract → ℕ → Intent ℕ ℕ → Ending → List ℕ
ending_object plan ts cs n intent ending =
    codes "{\"plan\":" ++ (plan ++ (codes ",\"place\":" ++ (decimal n ++ (codes ",\"intent\":{"
    ++ (intent_members ts cs intent ++ (codes "}," ++ (ending_members ending ++ codes "}\n")))))))

abbrev pub ending_by : Spelling → List ℕ → List NamedThread → List NamedContract → ℕ → Intent ℕ ℕ → Ending → List ℕ
ending_by Lines plan ts cs n intent ending = ending_line plan ts cs intent ending
ending_by Objects plan ts cs n intent ending = ending_object plan ts cs n intent ending

abbrev pub line_of : Spelling → List ℕ → List NamedThread → List NamedContract → ℕ → Option (Intent ℕ ℕ) → Ending → List ℕ
line_of spelling plan ts cs n None ending = []
line_of spelling plan ts cs n (Some intent) ending = ending_by spelling plan ts cs n intent ending

-- of these intents, from place n on
abbrev pub ending_lines : Spelling → List ℕ → List NamedThread → List NamedContract → List (Intent ℕ ℕ) → ℕ → List EndedAt → List ℕ
ending_lines spelling plan ts cs xs n [] = []
ending_lines spelling plan ts cs xs n (e ∷ es) = line_of spelling plan ts cs n (slice_get xs n) e.ending ++ ending_lines spelling plan ts cs xs (n + 1) es

-- the plan's name, as an object also its seat
abbrev pub plan_text : Spelling → ℕ → List ℕ → List ℕ
plan_text Lines seat name = quoted name
plan_text Objects seat name = quoted name ++ (codes ",\"seat\":" ++ decimal seat)

abbrev pub plan_lines : Spelling → ℕ → List ℕ → List NamedThread → List NamedContract → List (Intent ℕ ℕ) → List EndedAt → List ℕ
plan_lines spelling seat name ts cs xs ends = ending_lines spelling (plan_text spelling seat name) ts cs xs 0 ends
