-- What a binary search among entries in order finds.
use Rattle.std.proofs.Common.{◌≡◌, ℕ, zero, suc, ◌<◌, ◌≤◌, List, [], ◌∷◌, length, get_or, Result, Ok, Err, MatchResult, refl, sym, ◌∙◌, ap, subst, inl, inr, arith}
use Rattle.std.proofs.Math.Dec.{T}
use Rattle.std.proofs.lemmas.Bool.{cases_lt}
use Rattle.std.specs.List.Sorted.{IsBinarySearchResult, IsSearchInRange, IsNonDecreasingBy}
use Rattle.std.specs.Ordering.{ordering_index, ordering_reverse}
use Rattle.std.specs.declared.cmp.Ordering.{Ordering}
use Rattle.std.specs.declared.cmp.Ordering.TheVariants.{Less, Equal, Greater}
use Rattle.std.specs.FinMap.Entries.{is_sorted}
use Rattle.contract.proofs.FromCollections.Places.{third, IsAt, IsGap}
use Rattle.contract.proofs.FromCollections.Halving.{rises}
use Rattle.contract.specs.Names.Orders.{bytes_cmp}
use Rattle.contract.specs.Names.Totals.{bytes_total}
use Rattle.contract.proofs.FromNames.Exact.{bytes_exact}

turned : (a b : List ℕ) (r : Ordering) → bytes_cmp a b ≡ r → bytes_cmp b a ≡ ordering_reverse r
turned a b r h = bytes_total.antisymm b a ∙ ap ordering_reverse h

most : (r : Ordering) → ordering_index r ≤ ordering_index Greater
most Less = omega arith
most Equal = omega arith
most Greater = omega arith

-- lesser ids answer lesser
index_rises : (t a b : List ℕ) → bytes_cmp a b ≡ Less → ordering_index (bytes_cmp a t) ≤ ordering_index (bytes_cmp b t)
index_rises t a b p =
    elim (bytes_cmp b t) as (λ r. bytes_cmp b t ≡ r → ordering_index (bytes_cmp a t) ≤ ordering_index r) [
      | Less ↦ λ e. subst (λ r. ordering_index r ≤ 0) (sym (bytes_total.trans a b t p e)) (omega arith)
      | Equal ↦ λ e. subst (λ r. ordering_index r ≤ 1) (sym (ap (λ u. bytes_cmp a u) (sym (bytes_exact b t e)) ∙ p)) (omega arith)
      | Greater ↦ λ e. most (bytes_cmp a t)
    ] refl

module _ {X : Type 0} (t : List ℕ) where
  never_falls : (es : List (List ℕ × X)) → T (is_sorted bytes_cmp es) → IsNonDecreasingBy (λ e. ordering_index (bytes_cmp e.0 t)) es
  never_falls es s i j d l m = elim (cases_lt i j) [
    | inl q ↦ index_rises t _ _ (rises bytes_cmp es s i j d q m)
    | inr q ↦ let e : i ≡ j = omega arith in subst (λ k. ordering_index (bytes_cmp (get_or es i d).0 t) ≤ ordering_index (bytes_cmp (get_or es k d).0 t)) e (omega arith)
  ]

  at_of : (es : List (List ℕ × X)) (i : ℕ) → T (is_sorted bytes_cmp es) → i < length es → ((d : List ℕ × X) → bytes_cmp (get_or es i d).0 t ≡ Equal) → IsAt bytes_cmp t es i
  at_of [] i s l h = absurd (omega arith)
  at_of (e ∷ es) zero s l h = turned e.0 t Equal (h e)
  at_of (e ∷ es) (suc i) s l h =
      (turned e.0 t Less (ap (λ u. bytes_cmp e.0 u) (sym (bytes_exact _ t (h e))) ∙ rises bytes_cmp (e ∷ es) s zero (suc i) e (omega arith) l), at_of es i (third _ _ s) (omega arith) h)

  gap_of : (es : List (List ℕ × X)) (i : ℕ) → i ≤ length es → ((k : ℕ) (d : List ℕ × X) → k < i → bytes_cmp (get_or es k d).0 t ≡ Less) → ((k : ℕ) (d : List ℕ × X) → i ≤ k → k < length es → bytes_cmp (get_or es k d).0 t ≡ Greater) → IsGap bytes_cmp t es i
  gap_of [] zero l b a = tt
  gap_of [] (suc i) l b a = absurd (omega arith)
  gap_of (e ∷ es) zero l b a = turned e.0 t Greater (a zero e (omega arith) (omega arith))
  gap_of (e ∷ es) (suc i) l b a = (turned e.0 t Less (b zero e (omega arith)), gap_of es i (omega arith) (λ k d m. b (suc k) d (omega arith)) (λ k d m n. a (suc k) d (omega arith) (omega arith)))

  pub searched : (es : List (List ℕ × X)) (r : Result ℕ ℕ) → T (is_sorted bytes_cmp es) → IsSearchInRange r (length es) → IsBinarySearchResult (λ e. bytes_cmp e.0 t) es r → MatchResult r (IsAt bytes_cmp t es) (IsGap bytes_cmp t es)
  searched es (Ok i) s l h = at_of es i s l h
  searched es (Err i) s l h = let parts = h (never_falls es s) in gap_of es i l (λ k d m. parts.0 k d (omega arith) m) (λ k d m n. parts.1 k d m n)
