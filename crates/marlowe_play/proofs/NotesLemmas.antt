-- What is told of plans, plan by plan.
use Rattle.std.proofs.Common.{◌≡◌, ◌∙◌, ℕ, zero, suc, ◌+◌, ◌<◌, List, [], ◌∷◌, ◌++◌, length, get_or, drop, map, refl, sym, ap, arith}
use Rattle.std.proofs.lemmas.List.{at_drop_more, length-map}
use Rattle.std.specs.Prelude.{slice_get, Option, Some, None, ◌-◌}
use Rattle.play_endings.specs.Ledger.declared.call.Entry.{Entry}
use Rattle.play_endings.specs.Plans.declared.intent.Intent.{Intent}
use Rattle.play_endings.specs.Plans.declared.plan.Plan.{Plan}
use Rattle.play_endings.specs.Plans.declared.scenario.NamedThread.{NamedThread}
use Rattle.play_endings.specs.Plans.declared.scenario.Scenario.{Scenario}
use Rattle.parties.specs.declared.left_out.LeftOut.{LeftOut}
use Rattle.play_setup.specs.BuilderSpec.declared.fault.BuildFault.{BuildFault}
use Rattle.play_endings.specs.Ledger.declared.look.Unspent.{Unspent}
use Rattle.play_endings.specs.PlayNotes.Notes.{notes_of, put_behind}
use Rattle.play_endings.specs.StepNotes.declared.spelling.Spelling.{Spelling}
use Rattle.play_endings.specs.StepNotes.declared.spelling.Spelling.TheVariants.{Lines, Objects}
use Rattle.play_endings.specs.PlayObjects.EntryObjects.{entry_objects}
use Rattle.play_endings.specs.declared.ending.Ending.{Ending}
use Rattle.play_endings.specs.declared.ending.Ending.TheVariants.{Done, NotBuilt, NothingToClaim, Refused, GivenUp, PoolFull, RefusedInRound, Pooled, Backward, Stopped}
use Rattle.play_endings.specs.declared.taken.Taken.{Taken}
use Rattle.play_endings.specs.Endings.{PlacedEntry, EndedAt, taken_in}
use Rattle.play_endings.specs.StepTexts.{done_text, put_text, put_done, put_ended}
use Rattle.marlowe_play.specs.Notes.{offered_at, unbuilt_by, put_at, put_intent, put_left, plan_ended, put_plan, put_plans, plan_told, marlowe_play, notes_by, notes_with}

-- ---- as many notes as before

put_behind_long : (n : ℕ) (text : List ℕ) (xs : List (List ℕ)) → length (put_behind n text xs) ≡ length xs
put_behind_long n text [] = refl
put_behind_long zero text (x ∷ xs) = refl
put_behind_long (suc n) text (x ∷ xs) = ap suc (put_behind_long n text xs)

put_at_long : (sp : Spelling) (s : Scenario) (place : Option ℕ) (x : Intent ℕ ℕ) (us : List Unspent) (f : BuildFault) (xs : List (List ℕ)) → length (put_at sp s place x us f xs) ≡ length xs
put_at_long sp s None x us f xs = refl
put_at_long sp s (Some n) x us f xs = put_behind_long n (unbuilt_by sp s n x us f) xs

put_intent_long : (sp : Spelling) (s : Scenario) (es : List Entry) (intent : Option (Intent ℕ ℕ)) (l : LeftOut) (xs : List (List ℕ)) → length (put_intent sp s es intent l xs) ≡ length xs
put_intent_long sp s es None l xs = refl
put_intent_long sp s es (Some intent) l xs =
    put_at_long sp s (slice_get l.looks.items (length l.looks.items - 1)) intent (offered_at es (slice_get l.looks.items 0)) l.fault xs

put_left_long : (sp : Spelling) (s : Scenario) (es : List Entry) (intents : List (Intent ℕ ℕ)) (ls : List LeftOut) (xs : List (List ℕ)) → length (put_left sp s es intents ls xs) ≡ length xs
put_left_long sp s es intents [] xs = refl
put_left_long sp s es intents (l ∷ ls) xs =
    put_left_long sp s es intents ls (put_intent sp s es (slice_get intents l.intent) l xs) ∙ put_intent_long sp s es (slice_get intents l.intent) l xs

put_text_long : (sp : Spelling) (ts : List NamedThread) (x : Intent ℕ ℕ) (turn : List PlacedEntry) (e : Ending) (xs : List (List ℕ)) → length (put_text sp ts x turn e xs) ≡ length xs
put_text_long sp ts x turn (Done n) xs = put_behind_long n (done_text sp ts x n turn) xs
put_text_long sp ts x turn NotBuilt xs = refl
put_text_long sp ts x turn NothingToClaim xs = refl
put_text_long sp ts x turn (Refused n) xs = refl
put_text_long sp ts x turn (GivenUp n) xs = refl
put_text_long sp ts x turn (PoolFull n) xs = refl
put_text_long sp ts x turn (RefusedInRound n t) xs = refl
put_text_long sp ts x turn (Pooled t) xs = refl
put_text_long sp ts x turn (Backward n) xs = refl
put_text_long sp ts x turn Stopped xs = refl

put_done_long : (sp : Spelling) (ts : List NamedThread) (x : Option (Intent ℕ ℕ)) (e : EndedAt) (xs : List (List ℕ)) → length (put_done sp ts x e xs) ≡ length xs
put_done_long sp ts None e xs = refl
put_done_long sp ts (Some x) e xs = put_text_long sp ts x e.turn e.ending xs

put_ended_long : (sp : Spelling) (ts : List NamedThread) (is : List (Intent ℕ ℕ)) (n : ℕ) (es : List EndedAt) (xs : List (List ℕ)) → length (put_ended sp ts is n es xs) ≡ length xs
put_ended_long sp ts is n [] xs = refl
put_ended_long sp ts is n (e ∷ es) xs = put_ended_long sp ts is (n + 1) es (put_done sp ts (slice_get is n) e xs) ∙ put_done_long sp ts (slice_get is n) e xs

put_plan_long : (sp : Spelling) (s : Scenario) (es : List Entry) (taken : List Taken) (n : ℕ) (plan : Option (Plan ℕ ℕ)) (ls : List LeftOut) (xs : List (List ℕ)) → length (put_plan sp s es taken n plan ls xs) ≡ length xs
put_plan_long sp s es taken n None ls xs = refl
put_plan_long sp s es taken n (Some plan) ls xs =
    put_ended_long sp s.threads plan.intents 0 (plan_ended es taken n plan ls) (put_left sp s es plan.intents ls xs) ∙ put_left_long sp s es plan.intents ls xs

put_plans_long : (sp : Spelling) (s : Scenario) (es : List Entry) (taken : List Taken) (n : ℕ) (lefts : List (List LeftOut)) (xs : List (List ℕ)) → length (put_plans sp s es taken n lefts xs) ≡ length xs
put_plans_long sp s es taken n [] xs = refl
put_plans_long sp s es taken n (left ∷ lefts) xs =
    put_plans_long sp s es taken (n + 1) lefts (put_plan sp s es taken n (slice_get s.plans n) left xs) ∙ put_plan_long sp s es taken n (slice_get s.plans n) left xs

notes_of_long : (es : List Entry) → length (notes_of es) ≡ length es
notes_of_long [] = refl
notes_of_long (e ∷ es) = ap suc (notes_of_long es)

entry_objects_long : (n : ℕ) (es : List Entry) → length (entry_objects n es) ≡ length es
entry_objects_long n [] = refl
entry_objects_long n (e ∷ es) = ap suc (entry_objects_long (n + 1) es)

notes_by_long : (sp : Spelling) (es : List Entry) → length (notes_by sp es) ≡ length es
notes_by_long Lines es = notes_of_long es
notes_by_long Objects es = entry_objects_long 0 es

-- for each entry one
pub notes_with_long : (sp : Spelling) (s : Scenario) (lefts : List (List LeftOut)) (es : List Entry) → length (notes_with sp s lefts es) ≡ length es
notes_with_long sp s lefts es = put_plans_long sp s es (taken_in 0 es) 0 lefts (notes_by sp es) ∙ notes_by_long sp es

-- ---- one plan more

map_at : {V : Type 0} (f : V → List LeftOut) (vs : List V) (i : ℕ) (d : V) → get_or (map f vs) i (f d) ≡ f (get_or vs i d)
map_at f [] i d = refl
map_at f (v ∷ vs) zero d = refl
map_at f (v ∷ vs) (suc i) d = map_at f vs i d

-- what a function makes of the lists from place i on, by the list at i
pub list_next : {V X : Type 0} (f : V → List LeftOut) (g : List (List LeftOut) → X) (vs : List V) (i : ℕ) (v : V) → i < length vs → v ≡ get_or vs i v →
    g (f v ∷ drop (i + 1) (map f vs)) ≡ g (drop i (map f vs))
list_next f g vs i v there is =
    let lefts = map f vs in
    let here : i < length lefts = omega (arith, length-map vs f, there) in
    ap (λ (l : List LeftOut). g (l ∷ drop (i + 1) lefts)) (ap f is ∙ sym (map_at f vs i v)) ∙ sym (at_drop_more g lefts i (f v) here)

pub plan_next : {V : Type 0} (f : V → List LeftOut) (sp : Spelling) (s : Scenario) (es : List Entry) (taken : List Taken) (vs : List V) (i : ℕ) (v : V) (xs : List (List ℕ)) → i < length vs → v ≡ get_or vs i v →
    put_plans sp s es taken (i + 1) (drop (i + 1) (map f vs)) (put_plan sp s es taken i (slice_get s.plans i) (f v) xs) ≡ put_plans sp s es taken i (drop i (map f vs)) xs
plan_next f sp s es taken vs i v xs there is = list_next f (λ l. put_plans sp s es taken i l xs) vs i v there is

pub told_next : {V : Type 0} (f : V → List LeftOut) (sp : Spelling) (s : Scenario) (es : List Entry) (taken : List Taken) (vs : List V) (i : ℕ) (v : V) → i < length vs → v ≡ get_or vs i v →
    plan_told sp s es taken i (slice_get s.plans i) (f v) ++ marlowe_play sp s es taken (i + 1) (drop (i + 1) (map f vs)) ≡ marlowe_play sp s es taken i (drop i (map f vs))
told_next f sp s es taken vs i v there is = list_next f (λ l. marlowe_play sp s es taken i l) vs i v there is
