-- The place of a name among items with one more at the end.
use Rattle.std.proofs.Common.{◌≡◌, ℕ, suc, ◌+◌, Bool, true, false, cond, List, [], ◌∷◌, ◌++◌, length, Option, Some, None, refl, sym, ap, ◌∙◌, arith}
use Rattle.std.specs.Prelude.{option_map}
use Rattle.std.proofs.lemmas.Slice.Eq.{bytes_eq-Decides}
use Rattle.contract.specs.Names.Equal.{same_text}
use Rattle.json_read_scenarios.specs.Names.{place_of}

-- what is found, else the other
abbrev or_else : Option ℕ → Option ℕ → Option ℕ
or_else (Some i) other = Some i
or_else None other = other

plus_one : (n : ℕ) → n + 1 ≡ suc n
plus_one n = omega arith

one_later : (o : Option ℕ) (b : Bool) (n : ℕ)
    → option_map (λ i. i + 1) (or_else o (cond b (Some n) None)) ≡ or_else (option_map (λ i. i + 1) o) (cond b (Some (suc n)) None)
one_later (Some i) b n = refl
one_later None true n = ap Some (plus_one n)
one_later None false n = refl

module _ {X : Type 0} (name_of : X → List ℕ) where
  place_of-push : (name : List ℕ) (xs : List X) (x : X)
      → place_of name_of name (xs ++ x ∷ []) ≡ or_else (place_of name_of name xs) (cond (same_text (name_of x) name) (Some (length xs)) None)
  place_of-push name [] x = refl
  place_of-push name (y ∷ xs) x =
      let later = λ (i : ℕ). i + 1 in
      elim (same_text (name_of y) name)
      as (λ b. ◌≡◌ {A = Option ℕ} (cond b (Some 0) (option_map later (place_of name_of name (xs ++ x ∷ [])))) (or_else (cond b (Some 0) (option_map later (place_of name_of name xs))) (cond (same_text (name_of x) name) (Some (length (y ∷ xs))) None))) [
        | true ↦ refl
        | false ↦ ap (option_map later) (place_of-push name xs x) ∙ one_later (place_of name_of name xs) (same_text (name_of x) name) (length xs)
      ]

  found_before : (o : Option ℕ) → o ≡ or_else o None
  found_before (Some i) = refl
  found_before None = refl

  -- an item whose name is new has its place behind the others, and these keep theirs
  pub place_of-new : (xs : List X) (x : X) → place_of name_of (name_of x) xs ≡ None → (name : List ℕ)
      → cond (same_text (name_of x) name) (Some (length xs)) (place_of name_of name xs) ≡ place_of name_of name (xs ++ x ∷ [])
  place_of-new xs x new name =
      elim (same_text (name_of x) name)
      as (λ b. same_text (name_of x) name ≡ b → cond b (Some (length xs)) (place_of name_of name xs) ≡ or_else (place_of name_of name xs) (cond b (Some (length xs)) None)) [
        | true ↦ λ same.
            let is : name_of x ≡ name = (bytes_eq-Decides (name_of x) name).0 same in
            sym (ap (λ o. or_else o (Some (length xs))) (ap (λ n. place_of name_of n xs) (sym is) ∙ new))
        | false ↦ λ other. found_before (place_of name_of name xs)
      ] refl
      ∙ sym (place_of-push name xs x)
