-- What one look at an entry tells of the others, where the keys rise.
use Rattle.std.proofs.Common.{◌≡◌, ℕ, zero, suc, ◌+◌, ◌<◌, ◌≤◌, List, [], ◌∷◌, length, get_or, Ok, Err, sym, ◌∙◌, ap, subst, inl, inr, arith}
use Rattle.std.proofs.Math.Dec.{T}
use Rattle.std.specs.declared.cmp.Ordering.{Ordering}
use Rattle.std.specs.declared.cmp.Ordering.TheVariants.{Less, Equal, Greater}
use Rattle.std.specs.Ordering.{match_ordering, ordering_reverse}
use Rattle.std.specs.Cmp.{IsTotalOrder}
use Rattle.std.specs.FinMap.Entries.{below_all, is_sorted}
use Rattle.collections.specs.Search.{search, later}
use Rattle.std.proofs.lemmas.Bool.{cases_lt}
use Rattle.std.proofs.lemmas.List.Elements.{at_read}
use Rattle.collections.proofs.Places.{second, third, below_head, below_tail}

module _ {K : Type 0} (R : K → K → Ordering) (o : IsTotalOrder R) (k : K) where
  -- what is below a smaller key is smaller
  under_greater : (a b : K) → R k a ≡ Greater → R b a ≡ Less → R k b ≡ Greater
  under_greater a b p q = o.antisymm k b ∙ ap ordering_reverse (o.trans b a k q (o.antisymm a k ∙ ap ordering_reverse p))

  -- what is below the key itself is smaller
  under_equal : (a b : K) → R k a ≡ Equal → R b a ≡ Less → R k b ≡ Greater
  under_equal a b p q = o.congr k a b p ∙ o.antisymm a b ∙ ap ordering_reverse q

module _ {K X : Type 0} (R : K → K → Ordering) where
  -- a key that is below all keys is below the one at each place
  below_each : (x : K) (es : List (K × X)) (j : ℕ) (d : K × X) → T (below_all R x es) → j < length es → R x (get_or es j d).0 ≡ Less
  below_each x [] j d h l = absurd (omega arith)
  below_each x (e ∷ es) zero d h l = below_head R x e es h
  below_each x (e ∷ es) (suc j) d h l = below_each x es j d (below_tail R x e es h) (omega arith)

  -- the keys rise from place to place
  pub rises : (es : List (K × X)) → T (is_sorted R es) → (i j : ℕ) (d : K × X) → i < j → j < length es → R (get_or es i d).0 (get_or es j d).0 ≡ Less
  rises [] s i j d l m = absurd (omega arith)
  rises (e ∷ es) s i zero d l m = absurd (omega arith)
  rises (e ∷ es) s zero (suc j) d l m = below_each e.0 es j d (second _ _ s) (omega arith)
  rises (e ∷ es) s (suc i) (suc j) d l m = rises es (third _ _ s) i j d (omega arith) (omega arith)

  -- the keys before place n are smaller than k
  abbrev pub AllSmaller : K → List (K × X) → ℕ → Type 0
  AllSmaller k es n = (i : ℕ) (d : K × X) → i < n → R k (get_or es i d).0 ≡ Greater

  -- the keys from place n on are greater than k
  abbrev pub AllGreater : K → List (K × X) → ℕ → Type 0
  AllGreater k es n = (i : ℕ) (d : K × X) → n ≤ i → i < length es → R k (get_or es i d).0 ≡ Less

  -- between smaller keys and greater ones the search ends with no key
  pub search-gap : (k : K) (es : List (K × X)) (n : ℕ) → n ≤ length es → AllSmaller k es n → AllGreater k es n → search R k es ≡ Err n
  search-gap k [] n h b a = ap Err (omega arith)
  search-gap k (e ∷ es) zero h b a = ap (λ o. match_ordering o (Err 0) (Ok 0) (later 1 (search R k es))) (a 0 e (omega arith) (omega arith))
  search-gap k (e ∷ es) (suc n) h b a =
      ap (λ o. match_ordering o (Err 0) (Ok 0) (later 1 (search R k es))) (b 0 e (omega arith))
      ∙ ap (later 1) (search-gap k es n (omega arith) (λ i d l. b (suc i) d (omega arith)) (λ i d l m. a (suc i) d (omega arith) (omega arith)))
      ∙ ap Err (omega arith)

  -- after smaller keys the search ends at the same key
  pub search-at : (k : K) (es : List (K × X)) (n : ℕ) → n < length es → AllSmaller k es n → ((d : K × X) → R k (get_or es n d).0 ≡ Equal) → search R k es ≡ Ok n
  search-at k [] n h b a = absurd (omega arith)
  search-at k (e ∷ es) zero h b a = ap (λ o. match_ordering o (Err 0) (Ok 0) (later 1 (search R k es))) (a e)
  search-at k (e ∷ es) (suc n) h b a =
      ap (λ o. match_ordering o (Err 0) (Ok 0) (later 1 (search R k es))) (b 0 e (omega arith))
      ∙ ap (later 1) (search-at k es n (omega arith) (λ i d l. b (suc i) d (omega arith)) a)
      ∙ ap Ok (omega arith)

  module _ (o : IsTotalOrder R) (k : K) where
    -- k is greater than the key at m, so it is greater than those before
    pub smaller_from : (es : List (K × X)) (m : ℕ) (e : K × X) → T (is_sorted R es) → m < length es → e ≡ get_or es m e → R k (get_or es m e).0 ≡ Greater → AllSmaller k es (m + 1)
    smaller_from es m e s l is p i d h =
        let here = at_read es (λ e. R k e.0 ≡ Greater) m e l is (subst (λ x. R k x.0 ≡ Greater) (sym is) p) in
        elim (cases_lt i m) [
          | inl q ↦ under_greater R o k _ _ (here d) (rises es s i m d q l)
          | inr q ↦ subst (λ j. R k (get_or es j d).0 ≡ Greater) (omega arith) (here d)
        ]

    -- k is less than the key at m, so it is less than those after
    pub greater_from : (es : List (K × X)) (m : ℕ) (e : K × X) → T (is_sorted R es) → m < length es → e ≡ get_or es m e → R k (get_or es m e).0 ≡ Less → AllGreater k es m
    greater_from es m e s l is p i d h n =
        let here = at_read es (λ e. R k e.0 ≡ Less) m e l is (subst (λ x. R k x.0 ≡ Less) (sym is) p) in
        elim (cases_lt m i) [
          | inl q ↦ o.trans _ _ _ (here d) (rises es s m i d q n)
          | inr q ↦ subst (λ j. R k (get_or es j d).0 ≡ Less) (omega arith) (here d)
        ]

    -- k is the key at m, where the search ends
    pub search_from : (es : List (K × X)) (m : ℕ) (e : K × X) → T (is_sorted R es) → m < length es → e ≡ get_or es m e → R k (get_or es m e).0 ≡ Equal → search R k es ≡ Ok m
    search_from es m e s l is p =
        let here = at_read es (λ e. R k e.0 ≡ Equal) m e l is (subst (λ x. R k x.0 ≡ Equal) (sym is) p) in
        search-at k es m l (λ i d h. under_equal R o k _ _ (here d) (rises es s i m d h l)) here
