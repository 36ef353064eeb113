-- References that no input names twice.
use Rattle.std.proofs.Common.{◌≡◌, ℕ, ◌+◌, Bool, true, false, cond, List, [], ◌∷◌, ◌++◌, map, length, take, refl, sym, ap, ◌∙◌, append_assoc, Option, Some, None, arith}
use Rattle.std.specs.List.{list_any}
use Rattle.ledger_spec.specs.EutxoTypes.declared.output_ref.OutputRef.{OutputRef}
use Rattle.ledger_spec.specs.EutxoTypes.declared.spend.Spend.{Spend}
use Rattle.ledger_spec.specs.EutxoTypes.Parts.{same_ref}
use Rattle.ledger_spec.specs.Eutxo.Faults.{first_index}
use Rattle.ledger_spec.specs.Eutxo.Rules.{is_repeated}
use Rattle.ledger_spec.specs.BuilderSpec.Causes.{has_repeat}
use Rattle.ledger_spec.proofs.FromLedgerLaws.ReferenceLaws.{same_ref_so, same_ref-refl}
use Rattle.builder_laws.proofs.TestLemmas.{neither, none_of_two}

turned_if : (a b : OutputRef) (v : Bool) → same_ref b a ≡ v → same_ref a b ≡ false → v ≡ false
turned_if a b false e h = refl
turned_if a b true e h = sym (same_ref-refl a) ∙ ap (same_ref a) (sym (same_ref_so b a e)) ∙ h

-- whether two references name one output doesn't depend on which comes first
turned : (a b : OutputRef) → same_ref a b ≡ false → same_ref b a ≡ false
turned a b h = turned_if a b (same_ref b a) refl h

abbrev pub refs : List Spend → List OutputRef
refs xs = map (λ x. x.reference) xs

-- none of the first names one of the second
abbrev IsClear : List Spend → List OutputRef → Type 0
IsClear [] rs = Unit {0}
IsClear (y ∷ ys) rs = (list_any (λ s. same_ref s y.reference) rs ≡ false) × IsClear ys rs

clear_tail : (ys : List Spend) (r : OutputRef) (rs : List OutputRef) → IsClear ys (r ∷ rs) → IsClear ys rs
clear_tail [] r rs h = tt
clear_tail (y ∷ ys) r rs h = ((neither (same_ref r y.reference) (list_any (λ s. same_ref s y.reference) rs) h.0).1, clear_tail ys r rs h.1)

clear_head : (ys : List Spend) (r : OutputRef) (rs : List OutputRef) → IsClear ys (r ∷ rs) → list_any (λ (y : Spend). same_ref y.reference r) ys ≡ false
clear_head [] r rs h = refl
clear_head (y ∷ ys) r rs h =
    none_of_two (same_ref y.reference r) (list_any (λ (z : Spend). same_ref z.reference r) ys) (turned r y.reference (neither (same_ref r y.reference) (list_any (λ s. same_ref s y.reference) rs) h.0).0) (clear_head ys r rs h.1)

clear_more : (ys : List Spend) (x : Spend) (rs : List OutputRef) → IsClear ys rs → list_any (λ s. same_ref s x.reference) rs ≡ false → IsClear (ys ++ x ∷ []) rs
clear_more [] x rs h k = (k, tt)
clear_more (y ∷ ys) x rs h k = (h.0, clear_more ys x rs h.1 k)

take_front : (ys xs : List Spend) → take (length ys) (ys ++ xs) ≡ ys
take_front [] xs = refl
take_front (y ∷ ys) xs = ap (λ (zs : List Spend). y ∷ zs) (take_front ys xs)

length_more : (ys : List Spend) (x : Spend) → length (ys ++ x ∷ []) ≡ length ys + 1
length_more [] x = refl
length_more (y ∷ ys) x = let e = length_more ys x in omega arith

no_place_if : (b : Bool) (i : ℕ) (later : Option ℕ) → b ≡ false → later ≡ None → cond b (Some i) later ≡ None
no_place_if true i later h k = cc
no_place_if false i later h k = k

fresh_from : (ys xs : List Spend) → IsClear ys (refs xs) → has_repeat (refs xs) ≡ false → first_index (is_repeated (ys ++ xs)) (length ys) xs ≡ None
fresh_from ys [] h k = refl
fresh_from ys (x ∷ xs) h k =
    let p = neither (list_any (λ s. same_ref s x.reference) (refs xs)) (has_repeat (refs xs)) k in
    let later : first_index (is_repeated ((ys ++ x ∷ []) ++ xs)) (length (ys ++ x ∷ [])) xs ≡ None = fresh_from (ys ++ x ∷ []) xs (clear_more ys x (refs xs) (clear_tail ys x.reference (refs xs) h) p.0) p.1 in
    no_place_if (is_repeated (ys ++ (x ∷ xs)) (length ys) x) (length ys) (first_index (is_repeated (ys ++ (x ∷ xs))) (length ys + 1) xs)
    (ap (λ (zs : List Spend). list_any (λ (y : Spend). same_ref y.reference x.reference) zs) (take_front ys (x ∷ xs)) ∙ clear_head ys x.reference (refs xs) h)
    (ap (λ (zs : List Spend). first_index (is_repeated zs) (length ys + 1) xs) (sym (append_assoc ys (x ∷ []) xs))
    ∙ ap (λ n. first_index (is_repeated ((ys ++ x ∷ []) ++ xs)) n xs) (sym (length_more ys x)) ∙ later)

-- inputs that name nothing twice
pub fresh : (xs : List Spend) → has_repeat (refs xs) ≡ false → first_index (is_repeated xs) 0 xs ≡ None
fresh xs h = fresh_from [] xs tt h

-- ---- a front names nothing twice either

any_front : {A : Type 0} (test : A → Bool) (xs ys : List A) → list_any test (xs ++ ys) ≡ false → list_any test xs ≡ false
any_front test [] ys h = refl
any_front test (x ∷ xs) ys h = let p = neither (test x) (list_any test (xs ++ ys)) h in none_of_two (test x) (list_any test xs) p.0 (any_front test xs ys p.1)

pub repeat_front : (xs ys : List OutputRef) → has_repeat (xs ++ ys) ≡ false → has_repeat xs ≡ false
repeat_front [] ys h = refl
repeat_front (x ∷ xs) ys h =
    let p = neither (list_any (λ s. same_ref s x) (xs ++ ys)) (has_repeat (xs ++ ys)) h in
    none_of_two (list_any (λ s. same_ref s x) xs) (has_repeat xs) (any_front (λ s. same_ref s x) xs ys p.0) (repeat_front xs ys p.1)
