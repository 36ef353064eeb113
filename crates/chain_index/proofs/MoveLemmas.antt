-- Moves of one transaction more, and steps along them.
use Rattle.std.proofs.Common.{◌≡◌, ℕ, zero, suc, ◌+◌, ◌-◌, ◌<◌, ◌≤◌, arith, Bool, true, false, ◌||◌, List, [], ◌∷◌, ◌++◌, refl, sym, ◌∙◌, ap, subst, append_assoc, drop, length, get_or, map, Option, Some, None}
use Rattle.std.specs.List.{list_any, IsDistinct, AllByRecursion}
use Rattle.std.specs.Map.{lookup, keys_of}
use Rattle.std.proofs.lemmas.List.{drop_more, drop_all, map-append}
use Rattle.std.proofs.lemmas.Map.Keys.{IsDistinct-head, IsDistinct-tail}
use Rattle.ledger_spec.specs.EutxoTypes.contracts.output_ref.OutputRefPartialEq.TheImpl.{ghosts}
use Rattle.ledger_spec.specs.EutxoTypes.declared.output_ref.OutputRef.{OutputRef}
use Rattle.ledger_spec.specs.EutxoTypes.declared.spend.Spend.{Spend}
use Rattle.ledger_spec.specs.EutxoTypes.declared.tx.Tx.{Tx}
use Rattle.ledger_spec.specs.EutxoTypes.Parts.{same_ref, is_step}
use Rattle.ledger_spec.specs.LedgerLaws.Threads.{next_in}
use Rattle.ledger_spec.proofs.FromLedgerLaws.PlainLaws.{both_false, no_more, or_true}
use Rattle.ledger_spec.proofs.FromLedgerLaws.ReferenceLaws.{same_ref_so, same_ref-refl}
use Rattle.chain_index.specs.declared.moves.Move.{Move}
use Rattle.chain_index.specs.declared.moves.StepPlace.{StepPlace}
use Rattle.chain_index.specs.Contents.{is_among}
use Rattle.chain_index.specs.Moves.{move_to, and_move, moves_to, step_at, steps_after, steps_within, leads_after, leads_within}
use Rattle.chain_index.specs.PartsSupport.{IsFront}
use Rattle.chain_index.proofs.FrontLemmas.{front_more}
use Rattle.chain_index.proofs.LiveLemmas.{absent_lookup}
use Rattle.chain_index.proofs.RefLemmas.{eq_same, among_more}

abbrev pub Listed : Type 0
Listed = List (OutputRef × Move)

pub new_there : (r : OutputRef) (ms : Listed) → is_among (keys_of ms) r ≡ false → lookup (ghosts.eq r) ms ≡ None
new_there r ms h = ap (λ e. lookup (e r) ms) eq_same ∙ absent_lookup {V = Move} r ms h

-- a loop over inputs, of which these are left, and of the places those behind the first so many
pub record AreMoving (n : ℕ) (tx : Tx) (ps : List (Option ℕ)) (old ms : Listed) (left : List Spend) (k : ℕ) : Type 0 where
  pub entries : ms ++ moves_to n tx left (drop k ps) ≡ old ++ moves_to n tx tx.inputs ps
  pub grown : IsFront old ms
  pub once : IsDistinct same_ref (map (λ x. x.reference) left)
  pub unmoved : (r : OutputRef) → list_any (λ x. same_ref x.reference r) left ≡ true → is_among (keys_of ms) r ≡ false

pub first_unmoved : {n : ℕ} {tx : Tx} {ps : List (Option ℕ)} (old ms : Listed) (xs : List Spend) (i k : ℕ) (x : Spend) → i < length xs → x ≡ get_or xs i x → AreMoving n tx ps old ms (drop i xs) k →
    is_among (keys_of ms) x.reference ≡ false
first_unmoved old ms xs i k x l e h =
    h.unmoved x.reference
    (ap (list_any (λ y. same_ref y.reference x.reference)) (drop_more xs i x l ∙ ap (λ (y : Spend). y ∷ drop (i + 1) xs) (sym e))
    ∙ ap (λ b. b || list_any (λ y. same_ref y.reference x.reference) (drop (i + 1) xs)) (same_ref-refl x.reference))

none_alike : (r q : OutputRef) (xs : List Spend) → AllByRecursion (λ y. same_ref q y ≡ false) (map (λ x. x.reference) xs) → list_any (λ x. same_ref x.reference r) xs ≡ true → same_ref q r ≡ false
none_alike r q [] h k = cc
none_alike r q (x ∷ xs) h k = by (same_ref x.reference r) refl k (none_alike r q xs h.1)
  where
    by : (b : Bool) → same_ref x.reference r ≡ b → b || list_any (λ y. same_ref y.reference r) xs ≡ true → (list_any (λ y. same_ref y.reference r) xs ≡ true → same_ref q r ≡ false) → same_ref q r ≡ false
    by true e k go = ap (same_ref q) (sym (same_ref_so x.reference r e)) ∙ h.0
    by false e k go = go k

keys_one : (ms : Listed) (m : OutputRef × Move) (r : OutputRef) → is_among (keys_of ms) r ≡ false → same_ref m.0 r ≡ false → is_among (keys_of (ms ++ m ∷ [])) r ≡ false
keys_one ms m r h k =
    ap (λ (rs : List OutputRef). is_among rs r) (map-append (λ e. e.0) ms (m ∷ [])) ∙ among_more (keys_of ms) m.0 r ∙ both_false (is_among (keys_of ms) r) (same_ref m.0 r) h k

-- an input that steps takes the next place
pub next_moving : {n : ℕ} {tx : Tx} {ps : List (Option ℕ)} (old ms more : Listed) (xs : List Spend) (i k : ℕ) (x : Spend) → i < length xs → x ≡ get_or xs i x → is_step x.redeemer ≡ true →
    k < length ps → more ≡ ms ++ (x.reference, move_to n (next_in tx (get_or ps k None))) ∷ [] → AreMoving n tx ps old ms (drop i xs) k →
    AreMoving n tx ps old more (drop (i + 1) xs) (k + 1)
next_moving {n} {tx} {ps} old ms more xs i k x l e step within m h =
    let rest = drop (i + 1) xs in
    let p = get_or ps k None in
    let move : OutputRef × Move = (x.reference, move_to n (next_in tx p)) in
    let d : drop i xs ≡ x ∷ rest = drop_more xs i x l ∙ ap (λ (y : Spend). y ∷ rest) (sym e) in
    let q : drop k ps ≡ p ∷ drop (k + 1) ps = drop_more ps k None within in
    let here : moves_to n tx (drop i xs) (drop k ps) ≡ move ∷ moves_to n tx rest (drop (k + 1) ps) =
    ap (λ (ys : List Spend). moves_to n tx ys (drop k ps)) d ∙ ap (λ (b : Bool). and_move b n tx x (drop k ps) (moves_to n tx rest)) step ∙ ap (λ (l : List (Option ℕ)). and_move true n tx x l (moves_to n tx rest)) q in
    let once : IsDistinct same_ref (x.reference ∷ map (λ y. y.reference) rest) = subst (λ (l : List Spend). IsDistinct same_ref (map (λ y. y.reference) l)) d h.once in
    record {
      entries =
          ap (λ (l : Listed). l ++ moves_to n tx rest (drop (k + 1) ps)) m ∙ append_assoc ms (move ∷ []) (moves_to n tx rest (drop (k + 1) ps))
          ∙ ap (λ (l : Listed). ms ++ l) (sym here) ∙ h.entries;
      grown = front_more old ms more (move ∷ []) h.grown m;
      once = IsDistinct-tail same_ref x.reference (map (λ y. y.reference) rest) once;
      unmoved = λ r a.
          let before = h.unmoved r (ap (list_any (λ y. same_ref y.reference r)) d ∙ or_true (same_ref x.reference r) (list_any (λ y. same_ref y.reference r) rest) a) in
          ap (λ (l : Listed). is_among (keys_of l) r) m
          ∙ keys_one ms move r before (none_alike r x.reference rest (IsDistinct-head same_ref x.reference (map (λ y. y.reference) rest) once) a);
    }

-- one that takes none is passed over
passing : {n : ℕ} {tx : Tx} {ps : List (Option ℕ)} (old ms : Listed) (xs : List Spend) (i k : ℕ) (x : Spend) → i < length xs → x ≡ get_or xs i x →
    ((later : List (Option ℕ) → Listed) → and_move (is_step x.redeemer) n tx x (drop k ps) later ≡ later (drop k ps)) → AreMoving n tx ps old ms (drop i xs) k → AreMoving n tx ps old ms (drop (i + 1) xs) k
passing {n} {tx} {ps} old ms xs i k x l e none h =
    let rest = drop (i + 1) xs in
    let d : drop i xs ≡ x ∷ rest = drop_more xs i x l ∙ ap (λ (y : Spend). y ∷ rest) (sym e) in
    let once : IsDistinct same_ref (x.reference ∷ map (λ y. y.reference) rest) = subst (λ (l : List Spend). IsDistinct same_ref (map (λ y. y.reference) l)) d h.once in
    record {
      entries = ap (λ (l : Listed). ms ++ l) (sym (ap (λ (ys : List Spend). moves_to n tx ys (drop k ps)) d ∙ none (moves_to n tx rest))) ∙ h.entries;
      grown = h.grown;
      once = IsDistinct-tail same_ref x.reference (map (λ y. y.reference) rest) once;
      unmoved = λ r a. h.unmoved r (ap (list_any (λ y. same_ref y.reference r)) d ∙ or_true (same_ref x.reference r) (list_any (λ y. same_ref y.reference r) rest) a);
    }

-- where it doesn't step
pub not_moving : {n : ℕ} {tx : Tx} {ps : List (Option ℕ)} (old ms : Listed) (xs : List Spend) (i k : ℕ) (x : Spend) → i < length xs → x ≡ get_or xs i x → is_step x.redeemer ≡ false →
    AreMoving n tx ps old ms (drop i xs) k → AreMoving n tx ps old ms (drop (i + 1) xs) k
not_moving {n} {tx} {ps} old ms xs i k x l e step h = passing old ms xs i k x l e (λ later. ap (λ (b : Bool). and_move b n tx x (drop k ps) later) step) h

-- or there is no place left
pub none_moving : {n : ℕ} {tx : Tx} {ps : List (Option ℕ)} (old ms : Listed) (xs : List Spend) (i k : ℕ) (x : Spend) → i < length xs → x ≡ get_or xs i x → length ps ≤ k →
    AreMoving n tx ps old ms (drop i xs) k → AreMoving n tx ps old ms (drop (i + 1) xs) k
none_moving {n} {tx} {ps} old ms xs i k x l e all h = passing old ms xs i k x l e (λ later. by (is_step x.redeemer) later) h
  where
    none : drop k ps ≡ []
    none = drop_all k ps all

    at_end : (b : Bool) (later : List (Option ℕ) → Listed) → and_move b n tx x [] later ≡ later []
    at_end true later = refl
    at_end false later = refl

    by : (b : Bool) (later : List (Option ℕ) → Listed) → and_move b n tx x (drop k ps) later ≡ later (drop k ps)
    by b later = ap (λ (l : List (Option ℕ)). and_move b n tx x l later) none ∙ at_end b later ∙ sym (ap later none)

pub same_moving : {n : ℕ} {tx : Tx} {ps : List (Option ℕ)} (old ms more : Listed) (xs : List Spend) (k m : ℕ) → more ≡ ms → m ≡ k → AreMoving n tx ps old ms xs k → AreMoving n tx ps old more xs m
same_moving {n} {tx} {ps} old ms more xs k m e f h = subst (λ (l : Listed). AreMoving n tx ps old l xs m) (sym e) (subst (AreMoving n tx ps old ms xs) (sym f) h)

-- ---- steps along moves

less_one : (k n : ℕ) → k < n → n - k ≡ suc (n - (k + 1))
less_one k n h = omega (arith, h)

pub one_step : (ms : Listed) (k : ℕ) (told more : List StepPlace) (at next : Option OutputRef) (x : StepPlace) → k < length ms → step_at at ms ≡ Some (x, next) → more ≡ told ++ x ∷ [] →
    more ++ steps_within (length ms - (k + 1)) ms next ≡ told ++ steps_within (length ms - k) ms at
one_step ms k told more at next x l e m =
    ap (λ (xs : List StepPlace). xs ++ steps_within (length ms - (k + 1)) ms next) m ∙ append_assoc told (x ∷ []) (steps_within (length ms - (k + 1)) ms next)
    ∙ ap (λ (xs : List StepPlace). told ++ xs) (sym (ap (λ j. steps_within j ms at) (less_one k (length ms) l) ∙ ap (λ o. steps_after o (λ q. steps_within (length ms - (k + 1)) ms q)) e))

no_step_in : (n : ℕ) (ms : Listed) (at : Option OutputRef) → step_at at ms ≡ None → steps_within n ms at ≡ []
no_step_in zero ms at e = refl
no_step_in (suc n) ms at e = ap (λ o. steps_after o (λ q. steps_within n ms q)) e

pub no_step : (n : ℕ) (ms : Listed) (told all : List StepPlace) (at : Option OutputRef) → step_at at ms ≡ None → told ++ steps_within n ms at ≡ all → told ≡ all
no_step n ms told all at e h = sym (no_more told) ∙ ap (λ (xs : List StepPlace). told ++ xs) (sym (no_step_in n ms at e)) ∙ h

pub all_steps : (k n : ℕ) (ms : Listed) (told all : List StepPlace) (at : Option OutputRef) → n ≤ k → told ++ steps_within (n - k) ms at ≡ all → told ≡ all
all_steps k n ms told all at e h = let z : n - k ≡ 0 = omega (arith, e) in sym (no_more told) ∙ ap (λ j. told ++ steps_within j ms at) (sym z) ∙ h

pub one_lead : (ms : Listed) (k : ℕ) (at next : Option OutputRef) (x : StepPlace) → k < length ms → step_at at ms ≡ Some (x, next) → leads_within (length ms - (k + 1)) ms next ≡ leads_within (length ms - k) ms at
one_lead ms k at next x l e = sym (ap (λ j. leads_within j ms at) (less_one k (length ms) l) ∙ ap (λ o. leads_after at o (λ q. leads_within (length ms - (k + 1)) ms q)) e)

pub no_lead : (n : ℕ) (ms : Listed) (at : Option OutputRef) → step_at at ms ≡ None → at ≡ leads_within n ms at
no_lead zero ms at e = refl
no_lead (suc n) ms at e = sym (ap (λ o. leads_after at o (λ q. leads_within n ms q)) e)

pub all_led : (k n : ℕ) (ms : Listed) (at : Option OutputRef) → n ≤ k → at ≡ leads_within (n - k) ms at
all_led k n ms at e = let z : n - k ≡ 0 = omega (arith, e) in ap (λ j. leads_within j ms at) (sym z)
