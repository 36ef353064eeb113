-- A list of keys is searched from the front, one after another.
use Rattle.std.proofs.Common.{◌≡◌, ℕ, ◌+◌, ◌<◌, ◌≤◌, Bool, true, false, ◌||◌, List, ◌∷◌, length, get_or, drop, map, sym, ap, ◌∙◌}
use Rattle.std.specs.List.{list_any}
use Rattle.std.proofs.lemmas.List.{drop_more, drop_all}

module _ {V X : Type 0} (f : V → X) (vs : List V) (p : X → Bool) where
  -- what is seen of those from an index on
  abbrev seen_from : ℕ → List X
  seen_from i = map f (drop i vs)

  next : (d : V) (i : ℕ) → i < length vs → seen_from i ≡ f (get_or vs i d) ∷ seen_from (i + 1)
  next d i l = ap (map f) (drop_more vs i d l)

  pub any_here : (d : V) (i : ℕ) → i < length vs → list_any p (map f vs) ≡ list_any p (seen_from i) → p (f (get_or vs i d)) ≡ true → true ≡ list_any p (map f vs)
  any_here d i l so e = sym (so ∙ ap (list_any p) (next d i l) ∙ ap (λ b. b || list_any p (seen_from (i + 1))) e)

  pub any_past : (d : V) (i : ℕ) → i < length vs → list_any p (map f vs) ≡ list_any p (seen_from i) → p (f (get_or vs i d)) ≡ false → list_any p (map f vs) ≡ list_any p (seen_from (i + 1))
  any_past d i l so e = so ∙ ap (list_any p) (next d i l) ∙ ap (λ b. b || list_any p (seen_from (i + 1))) e

  pub any_none : (i : ℕ) → length vs ≤ i → list_any p (map f vs) ≡ list_any p (seen_from i) → false ≡ list_any p (map f vs)
  any_none i l so = sym (so ∙ ap (list_any p) (ap (map f) (drop_all i vs l)))
