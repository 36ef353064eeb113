-- A list is searched from the front, one item after another.
use Rattle.std.proofs.Common.{◌≡◌, ℕ, ◌+◌, ◌<◌, ◌≤◌, Bool, true, false, cond, ◌||◌, List, [], ◌∷◌, length, get_or, drop, map, Option, Some, None, find, take, count_by, sym, ap, ◌∙◌}
use Rattle.std.specs.Prelude.{◌&&◌}
use Rattle.std.specs.List.{list_any}
use Rattle.std.proofs.lemmas.List.{drop_more, drop_all}
use Rattle.std.proofs.lemmas.List.Sums.{sum_by_more}
use Rattle.json_forms.specs.declared.form.Form.{Form}
use Rattle.json_forms.specs.Spelling.{one_apart}
use Rattle.json_forms.specs.Lacking.{first_or, is_free, is_near, nearest}

module _ {V X : Type 0} (f : V → X) (vs : List V) where
  -- what is seen of those from an index on
  abbrev seen_from : ℕ → List X
  seen_from i = map f (drop i vs)

  next : (d : V) (i : ℕ) → i < length vs → seen_from i ≡ f (get_or vs i d) ∷ seen_from (i + 1)
  next d i l = ap (map f) (drop_more vs i d l)

  over : (i : ℕ) → length vs ≤ i → seen_from i ≡ []
  over i l = ap (map f) (drop_all i vs l)

  module _ (p : X → Bool) where
    -- ---- whether one passes
    pub any_here : (d : V) (i : ℕ) → i < length vs → list_any p (map f vs) ≡ list_any p (seen_from i) → p (f (get_or vs i d)) ≡ true → true ≡ list_any p (map f vs)
    any_here d i l so e = sym (so ∙ ap (list_any p) (next d i l) ∙ ap (λ b. b || list_any p (seen_from (i + 1))) e)

    pub any_past : (d : V) (i : ℕ) → i < length vs → list_any p (map f vs) ≡ list_any p (seen_from i) → p (f (get_or vs i d)) ≡ false → list_any p (map f vs) ≡ list_any p (seen_from (i + 1))
    any_past d i l so e = so ∙ ap (list_any p) (next d i l) ∙ ap (λ b. b || list_any p (seen_from (i + 1))) e

    pub any_none : (i : ℕ) → length vs ≤ i → list_any p (map f vs) ≡ list_any p (seen_from i) → false ≡ list_any p (map f vs)
    any_none i l so = sym (so ∙ ap (list_any p) (over i l))

    -- ---- the first that passes
    pub find_here : (d : V) (i : ℕ) → i < length vs → find p (map f vs) ≡ find p (seen_from i) → p (f (get_or vs i d)) ≡ true → Some (f (get_or vs i d)) ≡ find p (map f vs)
    find_here d i l so e = sym (so ∙ ap (find p) (next d i l) ∙ ap (λ b. cond b (Some (f (get_or vs i d))) (find p (seen_from (i + 1)))) e)

    pub find_past : (d : V) (i : ℕ) → i < length vs → find p (map f vs) ≡ find p (seen_from i) → p (f (get_or vs i d)) ≡ false → find p (map f vs) ≡ find p (seen_from (i + 1))
    find_past d i l so e = so ∙ ap (find p) (next d i l) ∙ ap (λ b. cond b (Some (f (get_or vs i d))) (find p (seen_from (i + 1)))) e

    pub find_none : (i : ℕ) → length vs ≤ i → find p (map f vs) ≡ find p (seen_from i) → None ≡ find p (map f vs)
    find_none i l so = sym (so ∙ ap (find p) (over i l))

-- ---- the same of items as they are

module _ {X : Type 0} (p : X → Bool) (xs : List X) where
  pub found_here : (d : X) (i : ℕ) → i < length xs → find p xs ≡ find p (drop i xs) → p (get_or xs i d) ≡ true → Some (get_or xs i d) ≡ find p xs
  found_here d i l so e = sym (so ∙ ap (find p) (drop_more xs i d l) ∙ ap (λ b. cond b (Some (get_or xs i d)) (find p (drop (i + 1) xs))) e)

  pub found_past : (d : X) (i : ℕ) → i < length xs → find p xs ≡ find p (drop i xs) → p (get_or xs i d) ≡ false → find p xs ≡ find p (drop (i + 1) xs)
  found_past d i l so e = so ∙ ap (find p) (drop_more xs i d l) ∙ ap (λ b. cond b (Some (get_or xs i d)) (find p (drop (i + 1) xs))) e

  pub found_none : (i : ℕ) → length xs ≤ i → find p xs ≡ find p (drop i xs) → None ≡ find p xs
  found_none i l so = sym (so ∙ ap (find p) (drop_all i xs l))

-- ---- counts

pub counted_more : {X : Type 0} (p : X → Bool) (xs : List X) (d : X) (i a b : ℕ) → i < length xs → a ≡ count_by p (take i xs) → b ≡ cond (p (get_or xs i d)) 1 0 → a + b ≡ count_by p (take (i + 1) xs)
counted_more p xs d i a b l so e = ap (λ n. n + b) so ∙ ap (λ n. count_by p (take i xs) + n) e ∙ sym (sum_by_more (λ y. cond (p y) 1 0) xs i d l)

-- ---- the nearest key

-- none is one letter apart: it is the first that is near
pub nearest_none : (form : Form) (w word : List ℕ) (keys : List (List ℕ)) (r : Option (List ℕ)) → w ≡ word → None ≡ find (λ key. is_free form key && one_apart w key) keys
    → r ≡ find (λ key. is_free form key && is_near w key) keys → r ≡ nearest form word keys
unfolding nearest
nearest_none form w word keys r same none near =
    near ∙ ap (λ v. find (λ key. is_free form key && is_near v key) keys) same
    ∙ ap (λ o. first_or o (find (λ key. is_free form key && is_near word key) keys)) (none ∙ ap (λ v. find (λ key. is_free form key && one_apart v key) keys) same)
