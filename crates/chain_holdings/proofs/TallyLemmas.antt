-- A tally that goes on by one entry.
use Rattle.std.proofs.Common.{◌≡◌, ℕ, zero, suc, ℤ, ◌+◌, Option, Some, None, ◌<◌, ◌≤◌, List, [], ◌∷◌, ◌++◌, length, take, get_or, refl, sym, ◌∙◌, ap, subst, arith}
use Rattle.std.proofs.lemmas.List.{take_more}
use Rattle.std.specs.List.{slice_get}
use Rattle.ledger_kept.specs.EutxoTypes.declared.tx.Tx.{Tx}
use Rattle.ledger_kept.specs.Ledger.declared.call.Entry.{Entry}
use Rattle.ledger_kept.proofs.FromLedgerLaws.PlainLaws.{take_some}
use Rattle.ledger_kept.specs.LedgerSpec.Replay.{Course}
use Rattle.ledger_kept.specs.LedgerSpec.Legal.{with_entry}
use Rattle.ledger_kept.specs.Kept.{Tally, IsTally, TalliesEntry}

-- a tally of all histories that have this first tick and these entries
abbrev pub IsOf : Tally → ℤ → List Entry → Type 0
IsOf t tick es = (c : Course) → c.first_tick ≡ tick → c.entries ≡ es → IsTally t c

abbrev pub first_of : ℤ → List Entry → Course
first_of tick es = record { genesis = []; first_tick = tick; entries = es }

-- there is such a history
pub some_course : (t : Tally) (tick : ℤ) (es : List Entry) (place : ℕ) → length es ≡ place → IsOf t tick es → (c : Course) × (length c.entries ≡ place) × IsTally t c
some_course t tick es place long is = (first_of tick es, long, is (first_of tick es) refl refl)

-- one more
pub tally_next : (old new : Tally) (tick : ℤ) (es : List Entry) (i : ℕ) (e : Entry) → i < length es → e ≡ get_or es i e → length (take i es) ≡ i → IsOf old tick (take i es) → TalliesEntry i e old new → IsOf new tick (take (i + 1) es)
tally_next old new tick es i e here is long of grown c at entries =
    let d : Course = record c { entries = take i es } in
    let more : take (i + 1) es ≡ take i es ++ e ∷ [] = take_more es i e here ∙ ap (λ (x : Entry). take i es ++ x ∷ []) (sym is) in
    subst (λ (l : List Entry). IsTally new (record c { entries = l })) (sym (entries ∙ more)) (grown d long (of d at refl))

-- ---- the accepted transactions, one after another

longer : (xs : List Tx) (x : Tx) → length (xs ++ x ∷ []) ≡ suc (length xs)
longer [] x = refl
longer (y ∷ ys) x = ap suc (longer ys x)

none_left : (n : ℕ) (xs : List Tx) → slice_get xs n ≡ None → take n xs ≡ xs
none_left zero [] h = refl
none_left zero (x ∷ xs) h = cc
none_left (suc n) [] h = refl
none_left (suc n) (x ∷ xs) h = ap (λ (l : List Tx). x ∷ l) (none_left n xs h)

pub accepted_next : (all old new : List Tx) (tx : Tx) (n : ℕ) → old ≡ take (length old) all → n ≡ length old → Some tx ≡ slice_get all n → new ≡ old ++ tx ∷ [] → new ≡ take (length new) all
accepted_next all old new tx n so is at put =
    let here : slice_get all (length old) ≡ Some tx = ap (λ (k : ℕ). slice_get all k) (sym is) ∙ sym at in
    let long : length new ≡ suc (length old) = ap (λ (l : List Tx). length l) put ∙ longer old tx in
    put ∙ ap (λ (l : List Tx). l ++ tx ∷ []) so ∙ sym (take_some (length old) all tx here) ∙ ap (λ (k : ℕ). take k all) (sym long)

pub accepted_end : (all old : List Tx) (n : ℕ) → old ≡ take (length old) all → n ≡ length old → None ≡ slice_get all n → old ≡ all
accepted_end all old n so is at = so ∙ none_left (length old) all (ap (λ (k : ℕ). slice_get all k) (sym is) ∙ sym at)
