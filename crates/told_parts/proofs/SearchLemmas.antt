-- A list is searched from the front, one item after another.
use Rattle.std.proofs.Common.{◌≡◌, ℕ, ◌+◌, ◌<◌, ◌≤◌, Bool, true, false, cond, ◌||◌, not, List, [], ◌∷◌, ◌++◌, length, get_or, drop, take, map, map-id, Some, None, find, sym, ap, ◌∙◌, refl}
use Rattle.std.specs.Prelude.{◌&&◌}
use Rattle.std.specs.List.{list_any, list_all}
use Rattle.std.proofs.lemmas.List.{drop_more, drop_all, take-append-drop}

module _ {V X : Type 0} (f : V → X) (vs : List V) (p : X → Bool) where
  pub any_here : (d : V) (i : ℕ) → i < length vs → list_any p (map f vs) ≡ list_any p (map f (drop i vs)) → p (f (get_or vs i d)) ≡ true → true ≡ list_any p (map f vs)
  any_here d i l so e = sym (so ∙ ap (λ us. list_any p (map f us)) (drop_more vs i d l) ∙ ap (λ b. b || list_any p (map f (drop (i + 1) vs))) e)

  pub any_past : (d : V) (i : ℕ) → i < length vs → list_any p (map f vs) ≡ list_any p (map f (drop i vs)) → p (f (get_or vs i d)) ≡ false → list_any p (map f vs) ≡ list_any p (map f (drop (i + 1) vs))
  any_past d i l so e = so ∙ ap (λ us. list_any p (map f us)) (drop_more vs i d l) ∙ ap (λ b. b || list_any p (map f (drop (i + 1) vs))) e

  pub any_none : (i : ℕ) → length vs ≤ i → list_any p (map f vs) ≡ list_any p (map f (drop i vs)) → false ≡ list_any p (map f vs)
  any_none i l so = sym (so ∙ ap (λ us. list_any p (map f us)) (drop_all i vs l))

-- ---- whether all pass

and_false : (b r : Bool) → not b ≡ true → false ≡ (b && r)
and_false true r e = cc
and_false false r e = refl

and_true : (b r : Bool) → not b ≡ false → (b && r) ≡ r
and_true true r e = refl
and_true false r e = absurd (cc)

module _ {X : Type 0} (p : X → Bool) (xs : List X) where
  pub all_here : (d : X) (i : ℕ) → i < length xs → list_all p xs ≡ list_all p (drop i xs) → not (p (get_or xs i d)) ≡ true → false ≡ list_all p xs
  all_here d i l so e = and_false (p (get_or xs i d)) (list_all p (drop (i + 1) xs)) e ∙ sym (so ∙ ap (list_all p) (drop_more xs i d l))

  pub all_past : (d : X) (i : ℕ) → i < length xs → list_all p xs ≡ list_all p (drop i xs) → not (p (get_or xs i d)) ≡ false → list_all p xs ≡ list_all p (drop (i + 1) xs)
  all_past d i l so e = so ∙ ap (list_all p) (drop_more xs i d l) ∙ and_true (p (get_or xs i d)) (list_all p (drop (i + 1) xs)) e

  pub all_end : (i : ℕ) → length xs ≤ i → list_all p xs ≡ list_all p (drop i xs) → true ≡ list_all p xs
  all_end i l so = sym (so ∙ ap (list_all p) (drop_all i xs l))

-- ---- the first character that passes

module _ {X : Type 0} (p : X → Bool) where
  over_one : (x : X) (xs ys : List X) (b : Bool) → cond b (Some x) (find p xs) ≡ None → (find p xs ≡ None → find p (xs ++ ys) ≡ find p ys) → cond b (Some x) (find p (xs ++ ys)) ≡ find p ys
  over_one x xs ys true e h = absurd (cc)
  over_one x xs ys false e h = h e

  -- none so far passes
  pub find_over : (xs ys : List X) → find p xs ≡ None → find p (xs ++ ys) ≡ find p ys
  find_over [] ys e = refl
  find_over (x ∷ xs) ys e = over_one x xs ys (p x) e (find_over xs ys)

  -- the next one does
  pub find_turn : (all ys : List X) (c : X) → map (λ x. x) ys ≡ take (length ys) all → length ys < length all → c ≡ get_or all (length ys) c → find p ys ≡ None → p c ≡ true → Some c ≡ find p all
  find_turn all ys c so l is none here =
      let n = length ys in
      sym
      (ap (find p) (sym (take-append-drop n all)) ∙ ap (λ zs. find p (zs ++ drop n all)) (sym so ∙ map-id ys) ∙ find_over ys (drop n all) none
      ∙ ap (find p) (drop_more all n c l ∙ ap (λ x. x ∷ drop (n + 1) all) (sym is)) ∙ ap (λ b. cond b (Some c) (find p (drop (n + 1) all))) here)

  -- none does
  pub find_past : (ys : List X) (c : X) → find p ys ≡ None → p c ≡ false → find p (ys ++ c ∷ []) ≡ None
  find_past ys c none here = find_over ys (c ∷ []) none ∙ ap (λ b. cond b (Some c) None) here

  pub find_end : (all ys : List X) → map (λ x. x) ys ≡ all → find p ys ≡ None → None ≡ find p all
  find_end all ys e none = sym (ap (find p) (sym e ∙ map-id ys) ∙ none)
