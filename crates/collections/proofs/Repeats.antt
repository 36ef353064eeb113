-- Keys that stand twice, in lists with the same entries and in lists in order.
use Rattle.std.proofs.Common.{◌≡◌, ℕ, zero, suc, ◌+◌, ◌<◌, Bool, true, false, cond, ◌||◌, List, [], ◌∷◌, length, get_or, Some, None, All, Contains, count_by, IsPermutation, refl, sym, ◌∙◌, ap, subst, subst₂, suc-add, arith}
use Rattle.std.proofs.Math.Dec.{T}
use Rattle.std.proofs.lemmas.Bool.{both_ways, or_parts, or_from, or_left, or_right, false_from_ne_true, cond-true, cond-false}
use Rattle.std.proofs.lemmas.List.Elements.{All-cons}
use Rattle.std.proofs.lemmas.List.Folds.{list_any_at}
use Rattle.std.proofs.lemmas.List.Sorted.{All-permutation, Contains-permutation, IsPermutation-sym, sum_by-IsPermutation}
use Rattle.std.proofs.lemmas.List.Sums.{sum_by-cons}
use Rattle.std.specs.declared.cmp.Ordering.{Ordering}
use Rattle.std.specs.declared.cmp.Ordering.TheVariants.{Less, Equal, Greater}
use Rattle.std.specs.Cmp.{IsTotalOrder, eq_by_cmp_equiv, tied_itself}
use Rattle.std.specs.FinMap.Entries.{find, below_all, is_sorted}
use Rattle.std.specs.List.{list_any, AllAdjacentBelow, IsAllAdjacentAnswer}
use Rattle.std.specs.List.Sorted.{IsSortedBy}
use Rattle.std.specs.Ordering.{eq_by_cmp, is_eq, is_lt, ordering_reverse}
use Rattle.collections.specs.Repeats.{has_key, has_repeat}
use Rattle.collections.proofs.Places.{both, second, third, less, below_head, below_tail, below_cons, below_less}

-- what no element passes is counted nowhere
none_counted : {X : Type 0} (p : X → Bool) (xs : List X) → list_any p xs ≡ false → count_by p xs ≡ 0
none_counted p [] h = refl
none_counted p (x ∷ xs) h =
    let parts = or_parts (p x) (list_any p xs) h in
    sum_by-cons (λ y. cond (p y) 1 0) x xs ∙ ap (λ b. cond b 1 0 + count_by p xs) parts.0 ∙ ap (λ n. 0 + n) (none_counted p xs parts.1)

-- what is counted nowhere, no element passes
some_counted : {X : Type 0} (p : X → Bool) (xs : List X) → count_by p xs ≡ 0 → list_any p xs ≡ false
some_counted p [] h = refl
some_counted p (x ∷ xs) h =
    let whole = sym (sum_by-cons (λ y. cond (p y) 1 0) x xs) ∙ h in
    elim (p x) as (λ b. cond b 1 0 + count_by p xs ≡ 0 → (b || list_any p xs) ≡ false) [
      | true ↦ λ e. absurd (omega arith)
      | false ↦ λ e. some_counted p xs (omega arith)
    ] whole

-- what no element passes fails at each
none_passes : {X : Type 0} (p : X → Bool) (xs : List X) → list_any p xs ≡ false → All (λ x. p x ≡ false) xs
none_passes p xs h k d l = false_from_ne_true (p (get_or xs k d)) (λ t. both_ways (list_any p xs) h (list_any_at p xs k d l t))

-- the first of two counts that make one is the whole
only_one : (a b c : ℕ) → a ≡ b + c → a ≡ 1 → b ≡ 1 → c ≡ 0
only_one a b c e f g = omega arith

-- the second of two counts that make one is the whole
only_other : (a b c : ℕ) → a ≡ b + c → a ≡ 1 → b ≡ 0 → c ≡ 1
only_other a b c e f g = omega arith

module _ {K : Type 0} (R : K → K → Ordering) (o : IsTotalOrder R) where
  -- of two keys neither is less
  tied : (a b : K) → false ≡ is_lt (R a b) → is_lt (R b a) ≡ false → eq_by_cmp R a b ≡ true
  tied a b p q =
      elim (R a b) as (λ r. R a b ≡ r → false ≡ is_lt r → is_eq r ≡ true) [
        | Less ↦ λ e n. cc
        | Equal ↦ λ e n. refl
        | Greater ↦ λ e n. absurd (both_ways _ q (ap is_lt (o.antisymm b a ∙ ap ordering_reverse e)))
      ] refl p

module _ {K X : Type 0} (R : K → K → Ordering) where
  -- the entries with the key
  abbrev with_key : List (K × X) → K → ℕ
  with_key es k = count_by (λ e. eq_by_cmp R k e.0) es

  -- how many entries have a key, counted from the first on
  with_key-cons : (e : K × X) (es : List (K × X)) (k : K) → with_key (e ∷ es) k ≡ cond (eq_by_cmp R k e.0) 1 0 + with_key es k
  with_key-cons e es k = sum_by-cons (λ x. cond (eq_by_cmp R k x.0) 1 0) e es

  -- each key stands once
  abbrev AllOnce : List (K × X) → Type 0
  AllOnce es = All (λ e. with_key es e.0 ≡ 1) es

  -- the same entries in another order have each key once
  AllOnce-permutation : (xs ys : List (K × X)) → IsPermutation xs ys → AllOnce xs → AllOnce ys
  AllOnce-permutation xs ys p h k d l =
      sum_by-IsPermutation (λ x. cond (eq_by_cmp R (get_or ys k d).0 x.0) 1 0) xs ys p ∙ All-permutation (λ e. with_key xs e.0 ≡ 1) xs ys p h k d l

  module _ (o : IsTotalOrder R) where
    -- where no key is repeated, each stands once
    once_from : (es : List (K × X)) → has_repeat R es ≡ false → AllOnce es
    once_from [] h = λ k d l. absurd (omega arith)
    once_from (e ∷ es) h =
        let parts = or_parts (has_key R e.0 es) (has_repeat R es) h in
        let others = none_passes (λ x. eq_by_cmp R e.0 x.0) es parts.0 in
        let rest = once_from es parts.1 in
        All-cons (λ x. with_key (e ∷ es) x.0 ≡ 1) e es
        (with_key-cons e es e.0 ∙ ap (λ b. cond b 1 0 + with_key es e.0) (ap is_eq (tied_itself o e.0)) ∙ ap (λ n. 1 + n) (none_counted (λ x. eq_by_cmp R e.0 x.0) es parts.0))
        (λ k d l. let x = get_or es k d in
        with_key-cons e es x.0 ∙ ap (λ b. cond b 1 0 + with_key es x.0) ((eq_by_cmp_equiv o).symm x.0 e.0 ∙ others k d l) ∙ ap (λ n. 0 + n) (rest k d l))

    -- where each key stands once, none is repeated
    from_once : (es : List (K × X)) → AllOnce es → has_repeat R es ≡ false
    from_once [] h = refl
    from_once (e ∷ es) h =
        let first = some_counted (λ x. eq_by_cmp R e.0 x.0) es (only_one _ _ _ (with_key-cons e es e.0) (h 0 e (omega arith)) (ap (λ b. cond b 1 0) (ap is_eq (tied_itself o e.0)))) in
        let others = none_passes (λ x. eq_by_cmp R e.0 x.0) es first in
        or_from (has_key R e.0 es) (has_repeat R es) first
        (from_once es (λ k d l. let x = get_or es k d in
        only_other _ _ _ (with_key-cons e es x.0) (h (suc k) d (omega arith)) (ap (λ b. cond b 1 0) ((eq_by_cmp_equiv o).symm x.0 e.0 ∙ others k d l))))

    -- the same entries in another order repeat no key either
    pub no_repeat-permutation : (xs ys : List (K × X)) → IsPermutation xs ys → has_repeat R xs ≡ false → has_repeat R ys ≡ false
    no_repeat-permutation xs ys p h = from_once ys (AllOnce-permutation xs ys p (once_from xs h))

    -- keys that strictly rise are not repeated
    below_apart : (k : K) (es : List (K × X)) → T (below_all R k es) → has_key R k es ≡ false
    below_apart k [] h = refl
    below_apart k (e ∷ es) h = or_from _ _ (ap is_eq (below_head R k e es h)) (below_apart k es (below_tail R k e es h))

    -- where the keys strictly rise, none is repeated
    pub sorted_apart : (es : List (K × X)) → T (is_sorted R es) → has_repeat R es ≡ false
    sorted_apart [] h = refl
    sorted_apart (e ∷ es) h = or_from _ _ (below_apart e.0 es (second _ _ h)) (sorted_apart es (third _ _ h))

    -- where each key is less than the next, each is less than all later ones
    pub sorted_from : (es : List (K × X)) → AllAdjacentBelow (λ x y. is_lt (R x.0 y.0) ≡ true) es (length es) → T (is_sorted R es)
    sorted_from [] h = tt
    sorted_from (e ∷ []) h = tt
    sorted_from (e ∷ f ∷ es) h =
        let rest = sorted_from (f ∷ es) (λ k d l. rw (suc-add k 1) at (h (suc k) d (omega arith))) in
        let step = less _ (subst T (sym (h 0 e (omega arith))) tt) in
        both _ _ (below_cons R e.0 f es step (below_less R e.0 o f.0 es step (second _ _ rest))) rest

    -- two neighbours with one key repeat it
    pub repeat_at : (es : List (K × X)) (k : ℕ) → k + 1 < length es → ((d : K × X) → eq_by_cmp R (get_or es k d).0 (get_or es (k + 1) d).0 ≡ true) → has_repeat R es ≡ true
    repeat_at [] k l h = absurd (omega arith)
    repeat_at (e ∷ []) k l h = absurd (omega arith)
    repeat_at (e ∷ f ∷ es) zero l h = or_left _ _ (or_left _ _ (h e))
    repeat_at (e ∷ f ∷ es) (suc k) l h = or_right _ _ (repeat_at (f ∷ es) k (omega arith) (λ d. rw (suc-add k 1) at (h d)))

    -- where a pass over neighbours succeeds, the keys strictly rise
    pub rising : (ys zs : List (K × X)) (r : Bool) → IsAllAdjacentAnswer (λ x y b. b ≡ is_lt (R x.0 y.0)) zs r → zs ≡ ys → r ≡ true → T (is_sorted R ys)
    rising ys zs r h same is =
        let all = subst₂ (λ xs b. IsAllAdjacentAnswer (λ x y b. b ≡ is_lt (R x.0 y.0)) xs b) same is h in
        sorted_from ys (λ k d l. sym (all k d l))

    -- where it fails in a sorted list, a key is repeated
    pub falling : (ys zs : List (K × X)) (r : Bool) → IsAllAdjacentAnswer (λ x y b. b ≡ is_lt (R x.0 y.0)) zs r → zs ≡ ys → r ≡ false → IsSortedBy (λ x y. is_lt (R x.0 y.0)) ys → has_repeat R ys ≡ true
    falling ys zs r h same is s =
        let step = subst₂ (λ xs b. IsAllAdjacentAnswer (λ x y b. b ≡ is_lt (R x.0 y.0)) xs b) same is h in
        repeat_at ys step.0 step.1 (λ d. tied R o _ _ (step.2 d) (s step.0 d (omega arith) step.1))

    -- what a look-up finds is the value of an entry with the key
    found_entry : (q : K) (es : List (K × X)) (v : X) → find R q es ≡ Some v → (e : K × X) × Contains es e × (eq_by_cmp R q e.0 ≡ true) × (e.1 ≡ v)
    found_entry q [] v h = cc
    found_entry q (e ∷ es) v h =
        elim (eq_by_cmp R q e.0) as (λ b. eq_by_cmp R q e.0 ≡ b → cond b (Some e.1) (find R q es) ≡ Some v → (x : K × X) × Contains (e ∷ es) x × (eq_by_cmp R q x.0 ≡ true) × (x.1 ≡ v)) [
          | true ↦ λ t is. (e, (0, omega arith, refl), t, cc)
          | false ↦ λ t is. let r = found_entry q es v is in (r.0, (suc r.1.0, omega arith, r.1.2), r.2, r.3)
        ] refl h

    -- with no key repeated, each entry is what a look-up of its key finds
    find_entry : (q : K) (es : List (K × X)) (e : K × X) → has_repeat R es ≡ false → Contains es e → eq_by_cmp R q e.0 ≡ true → find R q es ≡ Some e.1
    find_entry q [] e h has t = absurd (omega arith)
    find_entry q (f ∷ es) e h (zero, l, is) t =
        cond-true (eq_by_cmp R q f.0) (Some f.1) (find R q es) (subst (λ x. eq_by_cmp R q x.0 ≡ true) (sym is) t) ∙ ap (λ x. Some x.1) is
    find_entry q (f ∷ es) e h (suc k, l, is) t =
        let parts = or_parts (has_key R f.0 es) (has_repeat R es) h in
        let other = subst (λ x. eq_by_cmp R f.0 x.0 ≡ false) is (none_passes (λ x. eq_by_cmp R f.0 x.0) es parts.0 k e (omega arith)) in
        cond-false (eq_by_cmp R q f.0) (Some f.1) (find R q es) (false_from_ne_true _ (λ s. both_ways _ other (sym ((eq_by_cmp_equiv o).congr q f.0 e.0 s) ∙ t)))
        ∙ find_entry q es e parts.1 (k, omega arith, is) t

    -- with no key repeated, the order of the entries is nothing to a look-up
    pub find-permutation : (xs ys : List (K × X)) → IsPermutation xs ys → has_repeat R xs ≡ false → (q : K) → find R q ys ≡ find R q xs
    find-permutation xs ys p h q =
        elim (find R q ys) as (λ r. find R q ys ≡ r → r ≡ find R q xs) [
          | Some v ↦ λ is. let r = found_entry q ys v is in
              ap Some (sym r.3) ∙ sym (find_entry q xs r.0 h (Contains-permutation ys xs r.0 (IsPermutation-sym xs ys p) r.1) r.2)
          | None ↦ λ none. elim (find R q xs) as (λ r. find R q xs ≡ r → None ≡ r) [
            | Some v ↦ λ is. let r = found_entry q xs v is in
                sym none ∙ find_entry q ys r.0 (no_repeat-permutation xs ys p h) (Contains-permutation xs ys r.0 p r.1) r.2 ∙ ap Some r.3
            | None ↦ λ is. refl
          ] refl
        ] refl
