-- What is at a key's place among entries in order, and what an edit there does.
use Rattle.std.proofs.Common.{◌≡◌, ℕ, zero, suc, ◌<◌, ◌≤◌, Bool, true, false, cond, not, ◌&&◌, List, [], ◌∷◌, length, get_or, set, Some, None, Result, Ok, Err, MatchResult, refl, sym, ◌∙◌, ap, subst, arith}
use Rattle.std.proofs.Math.Dec.{T}
use Rattle.std.specs.declared.cmp.Ordering.{Ordering}
use Rattle.std.specs.declared.cmp.Ordering.TheVariants.{Less, Equal, Greater}
use Rattle.std.specs.List.{insert, remove}
use Rattle.std.specs.Ordering.{is_eq, is_lt, match_ordering}
use Rattle.std.specs.Cmp.{IsTotalOrder}
use Rattle.std.specs.FinMap.Entries.{by_order, find, put, below_all, is_sorted}
use Rattle.collections.specs.Keys.{without}
use Rattle.collections.specs.Search.{search, later}

-- two tests that pass, pass together
pub both : (a b : Bool) → T a → T b → T (a && b)
both true b p q = q
both false b p q = p

-- of two tests that pass together the first passes
pub second : (a b : Bool) → T (a && b) → T a
second true b p = tt
second false b p = p

-- of two tests that pass together the second passes
pub third : (a b : Bool) → T (a && b) → T b
third true b p = p
third false b p = absurd p

-- the answer that passes `is_lt`
pub less : (o : Ordering) → T (is_lt o) → o ≡ Less
less Less p = refl
less Equal p = absurd p
less Greater p = absurd p

-- a key that is below all keys is below the first and below the others
pub below_head : {K X : Type 0} (R : K → K → Ordering) (k : K) (e : K × X) (es : List (K × X)) → T (below_all R k (e ∷ es)) → R k e.0 ≡ Less
below_head R k e es h = less _ (second _ _ h)

-- a key that is below all keys is below those after the first
pub below_tail : {K X : Type 0} (R : K → K → Ordering) (k : K) (e : K × X) (es : List (K × X)) → T (below_all R k (e ∷ es)) → T (below_all R k es)
below_tail R k e es h = third _ _ h

-- a key that is below the first and below the others is below all
pub below_cons : {K X : Type 0} (R : K → K → Ordering) (k : K) (e : K × X) (es : List (K × X)) → R k e.0 ≡ Less → T (below_all R k es) → T (below_all R k (e ∷ es))
below_cons R k e es p h = both _ _ (subst (λ o. T (is_lt o)) (sym p) tt) h

module _ {K X : Type 0} (R : K → K → Ordering) (k : K) where
  -- the entry at place i has the key, and those before it have smaller ones
  abbrev pub IsAt : List (K × X) → ℕ → Type 0
  IsAt [] i = ⊥
  IsAt (e ∷ es) zero = R k e.0 ≡ Equal
  IsAt (e ∷ es) (suc i) = (R k e.0 ≡ Greater) × IsAt es i

  -- the key would go to place i: those before it are smaller, and the one at it is greater
  abbrev pub IsGap : List (K × X) → ℕ → Type 0
  IsGap [] zero = Unit {0}
  IsGap [] (suc i) = ⊥
  IsGap (e ∷ es) zero = R k e.0 ≡ Less
  IsGap (e ∷ es) (suc i) = (R k e.0 ≡ Greater) × IsGap es i

  -- a place in the rest is one later in the whole
  later_place : (e : K × X) (es : List (K × X)) (r : Result ℕ ℕ) → R k e.0 ≡ Greater → MatchResult r (IsAt es) (IsGap es) → MatchResult (later 1 r) (IsAt (e ∷ es)) (IsGap (e ∷ es))
  later_place e es (Ok i) p h = subst (IsAt (e ∷ es)) {x = suc i} (omega arith) (p, h)
  later_place e es (Err i) p h = subst (IsGap (e ∷ es)) {x = suc i} (omega arith) (p, h)

  -- what a search finds
  pub placed : (es : List (K × X)) → MatchResult (search R k es) (IsAt es) (IsGap es)
  placed [] = tt
  placed (e ∷ es) =
      elim (R k e.0) as (λ o. R k e.0 ≡ o → MatchResult (match_ordering o (Err 0) (Ok 0) (later 1 (search R k es))) (IsAt (e ∷ es)) (IsGap (e ∷ es))) [
        | Less ↦ λ p. p
        | Equal ↦ λ p. p
        | Greater ↦ λ p. later_place e es _ p (placed es)
      ] refl

  -- a place that the search gives is the key's
  pub found : (es xs : List (K × X)) (r : Result ℕ ℕ) (i : ℕ) → r ≡ search R k xs → xs ≡ es → r ≡ Ok i → IsAt es i
  found es xs r i e same is = subst (λ r. MatchResult r (IsAt es) (IsGap es)) (ap (search R k) (sym same) ∙ sym e ∙ is) (placed es)

  -- a gap that the search gives is the key's
  pub missed : (es xs : List (K × X)) (r : Result ℕ ℕ) (i : ℕ) → r ≡ search R k xs → xs ≡ es → r ≡ Err i → IsGap es i
  missed es xs r i e same is = subst (λ r. MatchResult r (IsAt es) (IsGap es)) (ap (search R k) (sym same) ∙ sym e ∙ is) (placed es)

  -- a key stands within the list
  pub at_in_range : (es : List (K × X)) (i : ℕ) → IsAt es i → i < length es
  at_in_range [] i h = absurd h
  at_in_range (e ∷ es) zero h = omega arith
  at_in_range (e ∷ es) (suc i) h = omega (arith, at_in_range es i h.1)

  -- a gap is within the list or at its end
  pub gap_in_range : (es : List (K × X)) (i : ℕ) → IsGap es i → i ≤ length es
  gap_in_range [] zero h = omega arith
  gap_in_range [] (suc i) h = absurd h
  gap_in_range (e ∷ es) zero h = omega arith
  gap_in_range (e ∷ es) (suc i) h = omega (arith, gap_in_range es i h.1)

  -- a look-up finds the value at the key's place
  pub find_at : (es : List (K × X)) (i : ℕ) (d : K × X) → IsAt es i → find R k es ≡ Some (get_or es i d).1
  find_at [] i d h = absurd h
  find_at (e ∷ es) zero d h = ap (λ o. cond (is_eq o) (Some e.1) (find R k es)) h
  find_at (e ∷ es) (suc i) d h = ap (λ o. cond (is_eq o) (Some e.1) (find R k es)) h.0 ∙ find_at es i d h.1

  -- a known key keeps its place, and its value is new
  pub put_at : (v : X) (es : List (K × X)) (i : ℕ) (d : K × X) → IsAt es i → put R k v es ≡ set es i ((get_or es i d).0, v)
  put_at v [] i d h = absurd h
  put_at v (e ∷ es) zero d h = ap (λ o. by_order o ((k, v) ∷ e ∷ es) ((e.0, v) ∷ es) (e ∷ put R k v es)) h
  put_at v (e ∷ es) (suc i) d h = ap (λ o. by_order o ((k, v) ∷ e ∷ es) ((e.0, v) ∷ es) (e ∷ put R k v es)) h.0 ∙ ap (λ xs. e ∷ xs) (put_at v es i d h.1)

  -- a new key goes into its gap
  pub put_gap : (v : X) (es : List (K × X)) (i : ℕ) → IsGap es i → put R k v es ≡ insert es i (k, v)
  put_gap v [] zero h = refl
  put_gap v [] (suc i) h = absurd h
  put_gap v (e ∷ es) zero h = ap (λ o. by_order o ((k, v) ∷ e ∷ es) ((e.0, v) ∷ es) (e ∷ put R k v es)) h
  put_gap v (e ∷ es) (suc i) h = ap (λ o. by_order o ((k, v) ∷ e ∷ es) ((e.0, v) ∷ es) (e ∷ put R k v es)) h.0 ∙ ap (λ xs. e ∷ xs) (put_gap v es i h.1)

  -- a key below all keys is not found, and to take it out changes nothing
  pub find_below : (es : List (K × X)) → T (below_all R k es) → find R k es ≡ None
  find_below [] h = refl
  find_below (e ∷ es) h = ap (λ o. cond (is_eq o) (Some e.1) (find R k es)) (below_head R k e es h) ∙ find_below es (below_tail R k e es h)

  -- to take a key below all keys out changes nothing
  pub without_below : (es : List (K × X)) → T (below_all R k es) → without R k es ≡ es
  without_below [] h = refl
  without_below (e ∷ es) h = ap (λ o. cond (not (is_eq o)) (e ∷ without R k es) (without R k es)) (below_head R k e es h) ∙ ap (λ xs. e ∷ xs) (without_below es (below_tail R k e es h))

  module _ (o : IsTotalOrder R) where
    -- a key at most the first one is below all others
    pub below_less : (x : K) (es : List (K × X)) → R k x ≡ Less → T (below_all R x es) → T (below_all R k es)
    below_less x [] p h = tt
    below_less x (e ∷ es) p h = below_cons R k e es (o.trans k x e.0 p (below_head R x e es h)) (below_less x es p (below_tail R x e es h))

    -- a key tied with the first one is below all others
    pub below_equal : (x : K) (es : List (K × X)) → R k x ≡ Equal → T (below_all R x es) → T (below_all R k es)
    below_equal x [] p h = tt
    below_equal x (e ∷ es) p h = below_cons R k e es (o.congr k x e.0 p ∙ below_head R x e es h) (below_equal x es p (below_tail R x e es h))

    -- a key with a gap is not found
    pub find_gap : (es : List (K × X)) (i : ℕ) → T (is_sorted R es) → IsGap es i → find R k es ≡ None
    find_gap [] i s h = refl
    find_gap (e ∷ es) zero s h = find_below (e ∷ es) (below_cons R k e es h (below_less e.0 es h (second _ _ s)))
    find_gap (e ∷ es) (suc i) s h = ap (λ r. cond (is_eq r) (Some e.1) (find R k es)) h.0 ∙ find_gap es i (third _ _ s) h.1

    -- to take a key with a gap out changes nothing
    pub without_gap : (es : List (K × X)) (i : ℕ) → T (is_sorted R es) → IsGap es i → without R k es ≡ es
    without_gap [] i s h = refl
    without_gap (e ∷ es) zero s h = without_below (e ∷ es) (below_cons R k e es h (below_less e.0 es h (second _ _ s)))
    without_gap (e ∷ es) (suc i) s h = ap (λ r. cond (not (is_eq r)) (e ∷ without R k es) (without R k es)) h.0 ∙ ap (λ xs. e ∷ xs) (without_gap es i (third _ _ s) h.1)

    -- to take a key out removes the entry at its place
    pub without_at : (es : List (K × X)) (i : ℕ) → T (is_sorted R es) → IsAt es i → without R k es ≡ remove es i
    without_at [] i s h = absurd h
    without_at (e ∷ es) zero s h = ap (λ r. cond (not (is_eq r)) (e ∷ without R k es) (without R k es)) h ∙ without_below es (below_equal e.0 es h (second _ _ s))
    without_at (e ∷ es) (suc i) s h = ap (λ r. cond (not (is_eq r)) (e ∷ without R k es) (without R k es)) h.0 ∙ ap (λ xs. e ∷ xs) (without_at es i (third _ _ s) h.1)
