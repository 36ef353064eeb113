-- Edits of entries in order, as edits of the finite map that they make.
use Rattle.std.proofs.Common.{◌≡◌, Bool, true, false, cond, not, List, [], length, None, sym, ◌∙◌, ap}
use Rattle.std.proofs.Math.Dec.{T}
use Rattle.std.specs.declared.cmp.Ordering.{Ordering}
use Rattle.std.specs.Ordering.{is_eq, eq_by_cmp}
use Rattle.std.specs.Cmp.{IsTotalOrder, alike_right, eq_by_cmp_equiv}
use Rattle.std.specs.FinMap.{from_sorted, insert, remove, empty, same_entries_map, entries-from_sorted, get-from_sorted, entries-insert, get-remove, same_map, empty_of_len, len-entries}
use Rattle.std.specs.FinMap.Entries.{find, put, is_sorted, is_sorted-put, is_sorted-where_key, find-where_key}
use Rattle.std.proofs.lemmas.Map.Lookups.{CmpEqualImpliesEq}
use Rattle.collections.specs.Keys.{without}

-- tests that agree, one of them turned round, choose alike
turned : {A : Type 0} (a b : Bool) (x y : A) → a ≡ b → cond (not a) x y ≡ cond b y x
turned a true x y e = ap (λ t. cond (not t) x y) e
turned a false x y e = ap (λ t. cond (not t) x y) e

module _ {K X : Type 0} (R : K → K → Ordering) where
  -- no entries make the empty map
  pub no_entries : from_sorted {X = X} {R = R} [] ≡ empty
  no_entries = empty_of_len _ (len-entries (from_sorted {R = R} []) ∙ ap length (entries-from_sorted R [] tt))

  module _ (o : IsTotalOrder R) (es : List (K × X)) (sorted : T (is_sorted R es)) where
    -- an entry put in its place is an insert
    pub put_is_insert : (k : K) (v : X) → from_sorted {R = R} (put R k v es) ≡ insert (from_sorted es) k v
    put_is_insert k v = same_entries_map _ _
        (entries-from_sorted R (put R k v es) (is_sorted-put R o k v es sorted)
        ∙ ap (put R k v) (sym (entries-from_sorted R es sorted))
        ∙ sym (entries-insert o (from_sorted es) k v))

    -- the entries of the other keys are a removal
    pub without_is_remove : CmpEqualImpliesEq R → (k : K) → from_sorted {R = R} (without R k es) ≡ remove (from_sorted es) k
    without_is_remove exact k = same_map o exact _ _ (λ q.
        get-from_sorted R (without R k es) q (is_sorted-where_key R (λ x. not (eq_by_cmp R k x)) es sorted)
        ∙ find-where_key R (λ x. not (eq_by_cmp R k x)) q (λ x t. ap (λ r. not (is_eq r)) (sym (alike_right o q x k t))) es
        ∙ turned (eq_by_cmp R k q) (eq_by_cmp R q k) (find R q es) None ((eq_by_cmp_equiv o).symm k q)
        ∙ ap (cond (eq_by_cmp R q k) None) (sym (get-from_sorted R es q sorted))
        ∙ sym (get-remove o (from_sorted es) k q))
