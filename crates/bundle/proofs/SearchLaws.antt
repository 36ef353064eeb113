-- What a binary search among entries in order finds.
use Rattle.std.proofs.Common.{◌≡◌, ℕ, ℤ, zero, suc, ◌<◌, ◌≤◌, List, [], ◌∷◌, length, get_or, Result, Ok, Err, MatchResult, refl, sym, ◌∙◌, ap, subst, inl, inr, arith}
use Rattle.std.proofs.Math.Dec.{T}
use Rattle.std.proofs.lemmas.Bool.{cases_lt}
use Rattle.std.specs.List.Sorted.{IsBinarySearchResult, IsSearchInRange, IsNonDecreasingBy}
use Rattle.std.specs.Ordering.{ordering_index, ordering_reverse}
use Rattle.std.specs.declared.cmp.Ordering.{Ordering}
use Rattle.std.specs.declared.cmp.Ordering.TheVariants.{Less, Equal, Greater}
use Rattle.std.specs.FinMap.Entries.{is_sorted}
use Rattle.names.proofs.FromCollections.Places.{third, IsAt, IsGap}
use Rattle.names.proofs.FromCollections.Halving.{rises}
use Rattle.names.specs.declared.token.Token.{Token}
use Rattle.names.specs.Orders.{token_cmp}
use Rattle.names.specs.Totals.{token_total}
use Rattle.names.proofs.Exact.{token_exact}

turned : (a b : Token) (r : Ordering) → token_cmp a b ≡ r → token_cmp b a ≡ ordering_reverse r
turned a b r h = token_total.antisymm b a ∙ ap ordering_reverse h

most : (r : Ordering) → ordering_index r ≤ ordering_index Greater
most Less = omega arith
most Equal = omega arith
most Greater = omega arith

-- lesser tokens answer lesser
index_rises : (t a b : Token) → token_cmp a b ≡ Less → ordering_index (token_cmp a t) ≤ ordering_index (token_cmp b t)
index_rises t a b p =
    elim (token_cmp b t) as (λ r. token_cmp b t ≡ r → ordering_index (token_cmp a t) ≤ ordering_index r) [
      | Less ↦ λ e. subst (λ r. ordering_index r ≤ 0) (sym (token_total.trans a b t p e)) (omega arith)
      | Equal ↦ λ e. subst (λ r. ordering_index r ≤ 1) (sym (ap (λ u. token_cmp a u) (sym (token_exact b t e)) ∙ p)) (omega arith)
      | Greater ↦ λ e. most (token_cmp a t)
    ] refl

module _ (t : Token) where
  never_falls : (es : List (Token × ℤ)) → T (is_sorted token_cmp es) → IsNonDecreasingBy (λ e. ordering_index (token_cmp e.0 t)) es
  never_falls es s i j d l m = elim (cases_lt i j) [
    | inl q ↦ index_rises t _ _ (rises token_cmp es s i j d q m)
    | inr q ↦ let e : i ≡ j = omega arith in subst (λ k. ordering_index (token_cmp (get_or es i d).0 t) ≤ ordering_index (token_cmp (get_or es k d).0 t)) e (omega arith)
  ]

  at_of : (es : List (Token × ℤ)) (i : ℕ) → T (is_sorted token_cmp es) → i < length es → ((d : Token × ℤ) → token_cmp (get_or es i d).0 t ≡ Equal) → IsAt token_cmp t es i
  at_of [] i s l h = absurd (omega arith)
  at_of (e ∷ es) zero s l h = turned e.0 t Equal (h e)
  at_of (e ∷ es) (suc i) s l h =
      (turned e.0 t Less (ap (λ u. token_cmp e.0 u) (sym (token_exact _ t (h e))) ∙ rises token_cmp (e ∷ es) s zero (suc i) e (omega arith) l), at_of es i (third _ _ s) (omega arith) h)

  gap_of : (es : List (Token × ℤ)) (i : ℕ) → i ≤ length es → ((k : ℕ) (d : Token × ℤ) → k < i → token_cmp (get_or es k d).0 t ≡ Less) → ((k : ℕ) (d : Token × ℤ) → i ≤ k → k < length es → token_cmp (get_or es k d).0 t ≡ Greater) → IsGap token_cmp t es i
  gap_of [] zero l b a = tt
  gap_of [] (suc i) l b a = absurd (omega arith)
  gap_of (e ∷ es) zero l b a = turned e.0 t Greater (a zero e (omega arith) (omega arith))
  gap_of (e ∷ es) (suc i) l b a = (turned e.0 t Less (b zero e (omega arith)), gap_of es i (omega arith) (λ k d m. b (suc k) d (omega arith)) (λ k d m n. a (suc k) d (omega arith) (omega arith)))

  pub searched : (es : List (Token × ℤ)) (r : Result ℕ ℕ) → T (is_sorted token_cmp es) → IsSearchInRange r (length es) → IsBinarySearchResult (λ e. token_cmp e.0 t) es r → MatchResult r (IsAt token_cmp t es) (IsGap token_cmp t es)
  searched es (Ok i) s l h = at_of es i s l h
  searched es (Err i) s l h = let parts = h (never_falls es s) in gap_of es i l (λ k d m. parts.0 k d (omega arith) m) (λ k d m n. parts.1 k d m n)
