-- What an edit of a map does to a sum over its entries.
use Rattle.std.proofs.Common.{◌≡◌, ℤ, pos, ◌+ℤ◌, not, cond, List, [], ◌∷◌, Some, refl, sym, ◌∙◌, ap, subst, arith}
use Rattle.std.proofs.Math.Dec.{T}
use Rattle.std.proofs.lemmas.Int.{ints}
use Rattle.std.specs.declared.cmp.Ordering.{Ordering}
use Rattle.std.specs.declared.cmp.Ordering.TheVariants.{Less, Equal, Greater}
use Rattle.std.specs.Option.{unwrap_or}
use Rattle.std.specs.Ordering.{is_eq, eq_by_cmp}
use Rattle.std.specs.Cmp.{IsTotalOrder, tied_itself}
use Rattle.std.specs.FinMap.{FinMap, from_sorted, entries, entries_sorted, get, insert, remove, same_entries_map, entries-from_sorted, entries-insert, get-entries}
use Rattle.std.specs.FinMap.Entries.{by_order, find, put, is_sorted, is_sorted-where_key}
use Rattle.std.proofs.lemmas.Map.Lookups.{CmpEqualImpliesEq}
use Rattle.collections.specs.Keys.{without}
use Rattle.collections.specs.Total.{total}
use Rattle.collections.proofs.Places.{second, third, find_below, below_less, without_below, below_equal, without_at}
use Rattle.collections.proofs.Maps.{without_is_remove}

-- a sum of both sides
more : (a b c d e : ℤ) → b +ℤ c ≡ d +ℤ e → (a +ℤ b) +ℤ c ≡ (a +ℤ d) +ℤ e
more a b c d e h = omega (arith, ints)

-- the first term moves to the end
first_new : (a b c z : ℤ) → z ≡ pos 0 → (a +ℤ (b +ℤ c)) +ℤ z ≡ (b +ℤ c) +ℤ a
first_new a b c z h = omega (arith, ints)

-- one value takes another's place in a sum
replaced : (a b c x y : ℤ) → x ≡ a → y ≡ b → (x +ℤ c) +ℤ b ≡ (y +ℤ c) +ℤ a
replaced a b c x y h k = omega (arith, ints)

-- a value is taken out of a sum
taken : (b c y : ℤ) → y ≡ b → c +ℤ b ≡ y +ℤ c
taken b c y k = omega (arith, ints)

-- a sum of both sides, where nothing is added
left_more : (a b c d : ℤ) → b +ℤ c ≡ d → (a +ℤ b) +ℤ c ≡ a +ℤ d
left_more a b c d h = omega (arith, ints)

-- one value makes a sum
only : (a z : ℤ) → z ≡ pos 0 → (a +ℤ pos 0) +ℤ z ≡ pos 0 +ℤ a
only a z h = omega (arith, ints)

-- nothing makes no sum
none : (z : ℤ) → z ≡ pos 0 → pos 0 +ℤ z ≡ pos 0
none z h = omega (arith, ints)

-- what w gives a key with its value
abbrev pub by : {K : Type 0} → (K → ℤ → ℤ) → K × ℤ → ℤ
by w e = w e.0 e.1

module _ {K : Type 0} (R : K → K → Ordering) (o : IsTotalOrder R) (exact : CmpEqualImpliesEq R) where
  -- the entries without a key
  pub entries-remove : {X : Type 0} (m : FinMap R X) (k : K) → entries (remove m k) ≡ without R k (entries m)
  entries-remove m k =
      let whole : from_sorted {R = R} (entries m) ≡ m = same_entries_map _ _ (entries-from_sorted R (entries m) (entries_sorted m)) in
      ap (λ n. entries (remove n k)) (sym whole)
      ∙ ap entries (sym (without_is_remove R o (entries m) (entries_sorted m) exact k))
      ∙ entries-from_sorted R _ (is_sorted-where_key R (λ x. not (eq_by_cmp R k x)) (entries m) (entries_sorted m))

  -- without the first key, the others are left
  pub entries-remove_first : {X : Type 0} (m : FinMap R X) (e : K × X) (es : List (K × X)) → entries m ≡ e ∷ es → entries (remove m e.0) ≡ es
  entries-remove_first m e es is =
      entries-remove m e.0 ∙ ap (without R e.0) is ∙ without_at R e.0 o (e ∷ es) 0 (subst (λ xs. T (is_sorted R xs)) is (entries_sorted m)) (tied_itself o e.0)

  module _ (w : K → ℤ → ℤ) (nothing : (k : K) → w k (pos 0) ≡ pos 0) where
    -- the total after an entry is put in its place
    total-put : (k : K) (v : ℤ) (es : List (K × ℤ)) → T (is_sorted R es) → total (by w) (put R k v es) +ℤ w k (unwrap_or (find R k es) (pos 0)) ≡ total (by w) es +ℤ w k v
    total-put k v [] s = only (w k v) (w k (pos 0)) (nothing k)
    total-put k v (e ∷ es) s =
        elim (R k e.0) as (λ r. R k e.0 ≡ r → total (by w) (by_order r ((k, v) ∷ e ∷ es) ((e.0, v) ∷ es) (e ∷ put R k v es)) +ℤ w k (unwrap_or (cond (is_eq r) (Some e.1) (find R k es)) (pos 0)) ≡ (w e.0 e.1 +ℤ total (by w) es) +ℤ w k v) [
          | Less ↦ λ p.
              rw (find_below R k es (below_less R k o e.0 es p (second _ _ s))) (first_new (w k v) (w e.0 e.1) (total (by w) es) (w k (pos 0)) (nothing k))
          | Equal ↦ λ p.
              replaced (w k v) (w k e.1) (total (by w) es) (w e.0 v) (w e.0 e.1) (ap (λ x. w x v) (sym (exact _ _ p))) (ap (λ x. w x e.1) (sym (exact _ _ p)))
          | Greater ↦ λ p. more (w e.0 e.1) (total (by w) (put R k v es)) (w k (unwrap_or (find R k es) (pos 0))) (total (by w) es) (w k v) (total-put k v es (third _ _ s))
        ] refl

    -- the total (by w)ithout a key
    total-without : (k : K) (es : List (K × ℤ)) → T (is_sorted R es) → total (by w) (without R k es) +ℤ w k (unwrap_or (find R k es) (pos 0)) ≡ total (by w) es
    total-without k [] s = none (w k (pos 0)) (nothing k)
    total-without k (e ∷ es) s =
        elim (R k e.0) as (λ r. R k e.0 ≡ r → total (by w) (cond (not (is_eq r)) (e ∷ without R k es) (without R k es)) +ℤ w k (unwrap_or (cond (is_eq r) (Some e.1) (find R k es)) (pos 0)) ≡ w e.0 e.1 +ℤ total (by w) es) [
          | Less ↦ λ p. left_more (w e.0 e.1) (total (by w) (without R k es)) (w k (unwrap_or (find R k es) (pos 0))) (total (by w) es) (total-without k es (third _ _ s))
          | Equal ↦ λ p.
              rw (without_below R k es (below_equal R k o e.0 es p (second _ _ s))) (taken (w k e.1) (total (by w) es) (w e.0 e.1) (ap (λ x. w x e.1) (sym (exact _ _ p))))
          | Greater ↦ λ p. left_more (w e.0 e.1) (total (by w) (without R k es)) (w k (unwrap_or (find R k es) (pos 0))) (total (by w) es) (total-without k es (third _ _ s))
        ] refl

    -- the total after an insert
    pub total-insert : (m : FinMap R ℤ) (k : K) (v : ℤ) → total (by w) (entries (insert m k v)) +ℤ w k (unwrap_or (get m k) (pos 0)) ≡ total (by w) (entries m) +ℤ w k v
    total-insert m k v = rw (entries-insert o m k v, get-entries m k) (total-put k v (entries m) (entries_sorted m))

    -- the total after a removal
    pub total-remove : (m : FinMap R ℤ) (k : K) → total (by w) (entries (remove m k)) +ℤ w k (unwrap_or (get m k) (pos 0)) ≡ total (by w) (entries m)
    total-remove m k = rw (entries-remove m k, get-entries m k) (total-without k (entries m) (entries_sorted m))
