-- Published objects under their ids.
use Rattle.std.proofs.Common.{◌≡◌, ℕ, zero, suc, Bool, true, false, cond, List, [], ◌∷◌, ◌++◌, refl, sym, ◌∙◌, ap, take, map, Some}
use Rattle.std.specs.Map.{lookup, keys_of, values_of}
use Rattle.std.specs.Cmp.Lexicographic.{bytes_decides}
use Rattle.std.proofs.lemmas.List.{map-append}
use Rattle.ledger_spec.specs.EutxoTypes.Parts.{same_bytes}
use Rattle.ledger_spec.specs.Roles.declared.published.Published.{Published}
use Rattle.ledger_spec.specs.Replay.{published_at}
use Rattle.chain_index.specs.PartsSupport.{AreNamed}

abbrev pub Named : Type 0
Named = List (List ℕ × Published)

head_of : (a b : List ℕ) (xs ys : List (List ℕ)) → ◌≡◌ {A = List (List ℕ)} (a ∷ xs) (b ∷ ys) → (a ≡ b) × (xs ≡ ys)
head_of a b xs ys h = let p : a ≡ b = cc in let q : xs ≡ ys = cc in (p, q)

flips : (a b : List ℕ) → same_bytes a b ≡ same_bytes b a
flips a b = by (same_bytes a b) (same_bytes b a) refl refl
  where
    by : (x y : Bool) → same_bytes a b ≡ x → same_bytes b a ≡ y → x ≡ y
    by true true p q = refl
    by false false p q = refl
    by true false p q = sym ((bytes_decides b a).1 (sym ((bytes_decides a b).0 p))) ∙ q
    by false true p q = sym p ∙ (bytes_decides a b).1 (sym ((bytes_decides b a).0 q))

-- what is found under an id
pub found_named : (es : Named) (id : List ℕ) → AreNamed es → lookup (same_bytes id) es ≡ published_at (values_of es) id
found_named [] id h = refl
found_named (e ∷ es) id h =
    let p = head_of e.0 e.1.id (keys_of es) (map (λ x. x.id) (values_of es)) h in
    ap (λ b. cond b (Some e.1) (lookup (same_bytes id) es)) (ap (same_bytes id) p.0 ∙ flips id e.1.id)
    ∙ ap (λ o. cond (same_bytes e.1.id id) (Some e.1) o) (found_named es id p.1)

taken : {A B : Type 0} (f : A → B) (n : ℕ) (xs : List A) → map f (take n xs) ≡ take n (map f xs)
taken f zero xs = refl
taken f (suc n) [] = refl
taken f (suc n) (x ∷ xs) = ap (λ (l : List _). f x ∷ l) (taken f n xs)

pub values_taken : (n : ℕ) (es : Named) → values_of (take n es) ≡ take n (values_of es)
values_taken n es = taken (λ e. e.1) n es

pub named_taken : (n : ℕ) (es : Named) → AreNamed es → AreNamed (take n es)
named_taken n es h = taken (λ e. e.0) n es ∙ ap (take n) h ∙ sym (taken (λ x. x.id) n (values_of es)) ∙ sym (ap (map (λ x. x.id)) (taken (λ e. e.1) n es))

pub values_more : (es : Named) (p : Published) → values_of (es ++ (p.id, p) ∷ []) ≡ values_of es ++ p ∷ []
values_more es p = map-append (λ e. e.1) es ((p.id, p) ∷ [])

pub named_more : (es : Named) (p : Published) → AreNamed es → AreNamed (es ++ (p.id, p) ∷ [])
named_more es p h =
    map-append (λ e. e.0) es ((p.id, p) ∷ []) ∙ ap (λ (l : List (List ℕ)). l ++ p.id ∷ []) h
    ∙ sym (map-append (λ x. x.id) (values_of es) (p ∷ [])) ∙ sym (ap (map (λ x. x.id)) (values_more es p))
