-- Inputs that name each output once.
use Rattle.std.proofs.Common.{◌≡◌, ℕ, ◌+◌, Bool, true, false, List, [], ◌∷◌, ◌++◌, refl, sym, ◌∙◌, ap, subst, arith, append_assoc, Option, Some, None, take, length}
use Rattle.std.specs.Prelude.{if◌then◌else◌}
use Rattle.std.specs.List.{list_any}
use Rattle.std.proofs.lemmas.List.Folds.{list_any-append}
use Rattle.roles.specs.EutxoTypes.declared.spend.Spend.{Spend}
use Rattle.roles.specs.Eutxo.Faults.{first_index}
use Rattle.roles.specs.Eutxo.Rules.{is_repeated}
use Rattle.roles.specs.EutxoTypes.Parts.{same_ref}
use Rattle.ledger_laws.proofs.PlainLaws.{EachFalse, or_false}

-- no input names what an earlier one names
abbrev pub Fresh : List Spend → Type 0
Fresh [] = Unit {0}
Fresh (x ∷ xs) = EachFalse (λ y. same_ref x.reference y.reference) xs × Fresh xs

abbrev FreshAfter : List Spend → List Spend → Type 0
FreshAfter front [] = Unit {0}
FreshAfter front (x ∷ xs) = (list_any (λ y. same_ref y.reference x.reference) front ≡ false) × FreshAfter (front ++ x ∷ []) xs

place_if : (b : Bool) (i : ℕ) (later : Option ℕ) → (if b then Some i else later) ≡ None → (b ≡ false) × (later ≡ None)
place_if true i later h = cc
place_if false i later h = (refl, h)

take_front : {A : Type 0} (xs ys : List A) → take (length xs) (xs ++ ys) ≡ xs
take_front [] ys = refl
take_front (x ∷ xs) ys = ap (λ (l : List _). x ∷ l) (take_front xs ys)

length_more : {A : Type 0} (xs : List A) (x : A) → length (xs ++ x ∷ []) ≡ length xs + 1
length_more [] x = refl
length_more (y ∷ xs) x = let e = length_more xs x in omega (arith, e)

fresh_after : (front xs : List Spend) → first_index (is_repeated (front ++ xs)) (length front) xs ≡ None → FreshAfter front xs
fresh_after front [] h = tt
fresh_after front (x ∷ xs) h =
    let p = place_if (is_repeated (front ++ x ∷ xs) (length front) x) (length front) (first_index (is_repeated (front ++ x ∷ xs)) (length front + 1) xs) h in
    let all : (front ++ x ∷ []) ++ xs ≡ front ++ x ∷ xs = append_assoc front (x ∷ []) xs in (
      sym (ap (λ (l : List Spend). list_any (λ y. same_ref y.reference x.reference) l) (take_front front (x ∷ xs))) ∙ p.0,
      fresh_after (front ++ x ∷ []) xs
          (ap (λ (l : List Spend). first_index (is_repeated l) (length (front ++ x ∷ [])) xs) all ∙ ap (λ (n : ℕ). first_index (is_repeated (front ++ x ∷ xs)) n xs) (length_more front x) ∙ p.1),
    )

others_differ : (front back : List Spend) (x : Spend) (xs : List Spend) → FreshAfter (front ++ x ∷ back) xs → EachFalse (λ y. same_ref x.reference y.reference) xs
others_differ front back x [] h = tt
others_differ front back x (y ∷ ys) h =
    let p = or_false (list_any (λ z. same_ref z.reference y.reference) front) (list_any (λ z. same_ref z.reference y.reference) (x ∷ back)) (sym (list_any-append (λ z. same_ref z.reference y.reference) front (x ∷ back)) ∙ h.0) in
    let q = or_false (same_ref x.reference y.reference) (list_any (λ z. same_ref z.reference y.reference) back) p.1 in
    (q.0, others_differ front (back ++ y ∷ []) x ys (subst (λ (l : List Spend). FreshAfter l ys) (append_assoc front (x ∷ back) (y ∷ [])) h.1))

fresh_so : (front xs : List Spend) → FreshAfter front xs → Fresh xs
fresh_so front [] h = tt
fresh_so front (x ∷ xs) h = (others_differ front [] x xs h.1, fresh_so (front ++ x ∷ []) xs h.1)

pub fresh : (xs : List Spend) → first_index (is_repeated xs) 0 xs ≡ None → Fresh xs
fresh xs h = fresh_so [] xs (fresh_after [] xs h)
