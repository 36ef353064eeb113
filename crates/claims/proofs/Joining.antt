-- Two lists of claims that become one.
use Rattle.std.proofs.Common.{◌≡◌, ℕ, ◌+◌, ◌<◌, ◌≤◌, ℤ, pos, ◌+ℤ◌, ◌-ℤ◌, ◌≤ℤ◌, ◌<ℤ◌, int_lt, Bool, true, false, cond, List, [], ◌∷◌, ◌++◌, length, get_or, set, take, drop, append-nil, refl, sym, ap, ◌∙◌, subst, append_assoc, arith, Option, Some, None}
use Rattle.std.proofs.lemmas.Int.{ints}
use Rattle.std.proofs.lemmas.List.{drop_more, drop-set, drop_all, length-set, take-append-drop}
use Rattle.std.specs.declared.cmp.Ordering.{Ordering}
use Rattle.std.specs.declared.cmp.Ordering.TheVariants.{Less, Equal, Greater}
use Rattle.std.specs.Ordering.{ordering_reverse}
use Rattle.std.specs.Cmp.{IsTotalOrder}
use Rattle.claims.specs.declared.claim.Claim.{Claim}
use Rattle.claims.specs.Claims.{takes, owner, IsLane, before_by, is_before, BeforeAll, AreApart}
use Rattle.claims.specs.Joining.{front_of}
use Rattle.claims.proofs.Numbers.{true_lt, false_lt, lt_true}
use Rattle.claims.proofs.Apart.{turned, before, all_on, IsWithin, all_within, apart_with, apart_without, apart_within, apart_head}
use Rattle.claims.proofs.Owners.{Taken, taken, takes_it, alike, owner_under, owner_joined, not_both, none_behind, owner_moved}

module _ {K : Type 0} (R : K → K → Ordering) (o : IsTotalOrder R) where
  same_lane : (a : K) → R a a ≡ Equal
  same_lane a = by (R a a) refl
    where
      by : (z : Ordering) → R a a ≡ z → R a a ≡ Equal
      by Less e = let t = turned R o a a Less e in absurd (cc)
      by Equal e = e
      by Greater e = let t = turned R o a a Greater e in absurd (cc)

  -- neither of two claims lies before the other
  pub record Meet (l r : Claim K) : Type 0 where
    pub lane : R l.lane r.lane ≡ Equal
    pub low : r.from ≤ℤ l.to
    pub high : l.from ≤ℤ r.to

  pub meet : (l r : Claim K) → is_before R l r ≡ false → is_before R r l ≡ false → Meet l r
  meet l r h k = by (R l.lane r.lane) refl h
    where
      by : (z : Ordering) → R l.lane r.lane ≡ z → before_by z l.to r.from ≡ false → Meet l r
      by Less e f = absurd (cc)
      by Equal e f =
          let t = turned R o l.lane r.lane Equal e in
          record { lane = e; low = false_lt l.to r.from f; high = false_lt r.to l.from (sym (ap (λ z. before_by z r.to l.from) t) ∙ k) }
      by Greater e f =
          let t = turned R o l.lane r.lane Greater e in
          let q = sym (ap (λ z. before_by z r.to l.from) t) ∙ k in absurd (cc)

  -- ---- what of the second lies below the first, and above it

  abbrev front : Claim K → Claim K → Claim K
  front l r = record r { to = l.from -ℤ pos 1 }

  abbrev pub rest : Claim K → Claim K → Claim K
  rest l r = record r { from = l.to +ℤ pos 1 }

  front_within : (l r : Claim K) → Meet l r → IsWithin R o (front l r) r
  front_within l r m = record { lane = same_lane r.lane; from = omega (arith, ints); to = let h = m.high in omega (arith, ints) }

  rest_within : (l r : Claim K) → Meet l r → IsWithin R o (rest l r) r
  rest_within l r m = record { lane = same_lane r.lane; from = let h = m.low in omega (arith, ints); to = omega (arith, ints) }

  front_first : (l r : Claim K) → Meet l r → is_before R (front l r) l ≡ true
  front_first l r m =
      ap (λ z. before_by z (l.from -ℤ pos 1) l.from) (turned R o l.lane r.lane Equal m.lane) ∙ lt_true (l.from -ℤ pos 1) l.from (omega (arith, ints))

  rest_last : (l r : Claim K) → Meet l r → is_before R l (rest l r) ≡ true
  rest_last l r m = ap (λ z. before_by z l.to (l.to +ℤ pos 1)) m.lane ∙ lt_true l.to (l.to +ℤ pos 1) (omega (arith, ints))

  front_before_rest : (l r : Claim K) → l.from ≤ℤ l.to → is_before R (front l r) (rest l r) ≡ true
  front_before_rest l r n =
      ap (λ z. before_by z (l.from -ℤ pos 1) (l.to +ℤ pos 1)) (same_lane r.lane) ∙ lt_true (l.from -ℤ pos 1) (l.to +ℤ pos 1) (omega (arith, ints))

  front_is : (l r : Claim K) → r.from <ℤ l.from → (front l r).from ≤ℤ (front l r).to
  front_is l r h = omega (arith, ints)

  rest_is : (l r : Claim K) → l.to <ℤ r.to → (rest l r).from ≤ℤ (rest l r).to
  rest_is l r h = omega (arith, ints)

  -- ---- they lie apart

  -- what lies below the first goes before it
  apart_first : (out ls rs : List (Claim K)) (l r : Claim K) → Meet l r → AreApart R (out ++ l ∷ ls) → AreApart R (out ++ r ∷ rs) → AreApart R ((out ++ front_of l r) ++ l ∷ ls)
  apart_first out ls rs l r m h k = by (int_lt r.from l.from) refl
    where
      by : (b : Bool) → int_lt r.from l.from ≡ b → AreApart R ((out ++ cond (int_lt r.from l.from) (front l r ∷ []) []) ++ l ∷ ls)
      by true e =
          let f = front l r in
          let n = front_is l r (true_lt r.from l.from e) in
          let q : AreApart R (out ++ f ∷ l ∷ ls) =
          apart_with R o out rs (l ∷ ls) f (apart_within R o out rs f r (front_within l r m) n k) h (front_first l r m, all_on R o f l ls (front_first l r m) (apart_head R o out ls l h).0 (apart_head R o out ls l h).1) in
          subst (λ (b : Bool). AreApart R ((out ++ cond b (front l r ∷ []) []) ++ l ∷ ls)) (sym e) (rw append_assoc q)
      by false e =
          subst (λ (b : Bool). AreApart R ((out ++ cond b (front l r ∷ []) []) ++ l ∷ ls)) (sym e) (rw append_assoc h)

  -- and before what is left of the second
  apart_second : (out ls rs ts : List (Claim K)) (l r : Claim K) → Meet l r → AreApart R (out ++ l ∷ ls) → AreApart R (out ++ r ∷ rs) → AreApart R (out ++ ts) → BeforeAll R (front l r) ts → AreApart R ((out ++ front_of l r) ++ ts)
  apart_second out ls rs ts l r m h k t b = by (int_lt r.from l.from) refl
    where
      by : (c : Bool) → int_lt r.from l.from ≡ c → AreApart R ((out ++ cond (int_lt r.from l.from) (front l r ∷ []) []) ++ ts)
      by true e =
          let f = front l r in
          let n = front_is l r (true_lt r.from l.from e) in
          let q : AreApart R (out ++ f ∷ ts) = apart_with R o out rs ts f (apart_within R o out rs f r (front_within l r m) n k) t b in
          subst (λ (c : Bool). AreApart R ((out ++ cond c (front l r ∷ []) []) ++ ts)) (sym e) (rw append_assoc q)
      by false e = subst (λ (c : Bool). AreApart R ((out ++ cond c (front l r ∷ []) []) ++ ts)) (sym e) (rw append_assoc t)

  front_before : (out rs : List (Claim K)) (l r : Claim K) → Meet l r → AreApart R (out ++ r ∷ rs) → BeforeAll R (front l r) rs
  front_before out rs l r m k = all_within R o (front l r) r rs (front_within l r m) (apart_head R o out rs r k).1

  -- ---- who has the numbers

  module _ (is_lane : K → Bool) (n : ℤ) (i : IsLane R is_lane) where
    -- a number of the second within the first's ends is the first's
    first_takes : (l r : Claim K) → Meet l r → Taken is_lane n r → l.from ≤ℤ n → n ≤ℤ l.to → Taken is_lane n l
    first_takes l r m t h k = record { lane = i.whole l.lane r.lane m.lane ∙ t.lane; from = h; to = k }

    at : (c : Claim K) (cs : List (Claim K)) (b : Bool) → takes is_lane n c ≡ b → owner is_lane n (c ∷ cs) ≡ cond b (Some c.by) (owner is_lane n cs)
    at c cs b e = ap (λ z. cond z (Some c.by) (owner is_lane n cs)) e

    -- the first goes in behind what lies below it; of the second so much is left that no number of its own is lost
    meet_owner : (ls rs ts : List (Claim K)) (l r : Claim K) → Meet l r → (l.from ≤ℤ l.to) → BeforeAll R l ls
        → ((Taken is_lane n l → ⊥) → (Taken is_lane n r → n <ℤ l.from → ⊥) → owner is_lane n ts ≡ owner is_lane n (r ∷ rs))
        → owner is_lane n (front_of l r ++ (l ∷ (ls ++ ts))) ≡ owner is_lane n (l ∷ (ls ++ r ∷ rs))
    meet_owner ls rs ts l r m ne ba h = by (int_lt r.from l.from) refl (takes is_lane n l) refl
      where
        not_taken : (c : Claim K) → takes is_lane n c ≡ false → Taken is_lane n c → ⊥
        not_taken c e t = let q = takes_it is_lane n c t in absurd (cc)

        -- where the first doesn't take it
        behind : takes is_lane n l ≡ false → (Taken is_lane n r → n <ℤ l.from → ⊥) → owner is_lane n (l ∷ (ls ++ ts)) ≡ owner is_lane n (l ∷ (ls ++ r ∷ rs))
        behind e k = ap (λ z. cond (takes is_lane n l) (Some l.by) z) (owner_under is_lane n ls ts (r ∷ rs) (h (not_taken l e) k))

        same : takes is_lane n l ≡ true → owner is_lane n (l ∷ (ls ++ ts)) ≡ owner is_lane n (l ∷ (ls ++ r ∷ rs))
        same e = at l (ls ++ ts) true e ∙ sym (at l (ls ++ r ∷ rs) true e)

        absent : l.from ≤ℤ r.from → Taken is_lane n r → n <ℤ l.from → ⊥
        absent g t k = let q = t.from in omega (arith, ints)

        front_taken : Taken is_lane n r → n <ℤ l.from → Taken is_lane n (front l r)
        front_taken t k = record { lane = t.lane; from = t.from; to = omega (arith, ints) }

        second_taken : Taken is_lane n (front l r) → Taken is_lane n r
        second_taken t = let q = t.to in let p = m.high in record { lane = t.lane; from = t.from; to = omega (arith, ints) }

        with_front : (b c : Bool) → takes is_lane n l ≡ b → takes is_lane n (front l r) ≡ c → owner is_lane n (front l r ∷ (l ∷ (ls ++ ts))) ≡ owner is_lane n (l ∷ (ls ++ r ∷ rs))
        with_front b true e g =
            let t = taken is_lane n (front l r) g in
            let u = takes_it is_lane n r (second_taken t) in
            let k = all_on R o (front l r) l ls (front_first l r m) ne ba in
            let q : owner is_lane n (l ∷ (ls ++ r ∷ rs)) ≡ owner is_lane n (r ∷ rs) = none_behind is_lane n R o i (front l r) (l ∷ ls) (r ∷ rs) (front_first l r m, k) t in
            at (front l r) (l ∷ (ls ++ ts)) true g ∙ sym (q ∙ at r rs true u)
        with_front true false e g = at (front l r) (l ∷ (ls ++ ts)) false g ∙ same e
        with_front false false e g = at (front l r) (l ∷ (ls ++ ts)) false g ∙ behind e (λ t k. not_taken (front l r) g (front_taken t k))

        by : (b : Bool) → int_lt r.from l.from ≡ b → (c : Bool) → takes is_lane n l ≡ c → owner is_lane n (front_of l r ++ (l ∷ (ls ++ ts))) ≡ owner is_lane n (l ∷ (ls ++ r ∷ rs))
        by true e c f =
            subst (λ (b : Bool). owner is_lane n (cond b (front l r ∷ []) [] ++ (l ∷ (ls ++ ts))) ≡ owner is_lane n (l ∷ (ls ++ r ∷ rs))) (sym e) (with_front c (takes is_lane n (front l r)) f refl)
        by false e true f =
            subst (λ (b : Bool). owner is_lane n (cond b (front l r ∷ []) [] ++ (l ∷ (ls ++ ts))) ≡ owner is_lane n (l ∷ (ls ++ r ∷ rs))) (sym e) (same f)
        by false e false f =
            subst (λ (b : Bool). owner is_lane n (cond b (front l r ∷ []) [] ++ (l ∷ (ls ++ ts))) ≡ owner is_lane n (l ∷ (ls ++ r ∷ rs))) (sym e) (behind f (absent (false_lt r.from l.from e)))

    -- nothing of the second is left where it ends within the first
    all_first : (l r : Claim K) (rs : List (Claim K)) → Meet l r → r.to ≤ℤ l.to → (Taken is_lane n l → ⊥) → (Taken is_lane n r → n <ℤ l.from → ⊥) → owner is_lane n rs ≡ owner is_lane n (r ∷ rs)
    all_first l r rs m e h k = by (takes is_lane n r) refl
      where
        by : (b : Bool) → takes is_lane n r ≡ b → owner is_lane n rs ≡ owner is_lane n (r ∷ rs)
        by true g =
            let t = taken is_lane n r g in
            let u : n ≤ℤ l.to = let q = t.to in omega (arith, ints) in
            absurd (first (int_lt n l.from) refl t u)
          where
            first : (b : Bool) → int_lt n l.from ≡ b → Taken is_lane n r → n ≤ℤ l.to → ⊥
            first true f t u = k t (true_lt n l.from f)
            first false f t u = h (first_takes l r m t (false_lt n l.from f) u)
        by false g = sym (at r rs false g)

    -- and else what lies above it
    rest_second : (l r : Claim K) (rs : List (Claim K)) → Meet l r → (Taken is_lane n l → ⊥) → (Taken is_lane n r → n <ℤ l.from → ⊥) → owner is_lane n (rest l r ∷ rs) ≡ owner is_lane n (r ∷ rs)
    rest_second l r rs m h k = ap (λ z. cond z (Some r.by) (owner is_lane n rs)) (alike is_lane n (rest l r) r whole left)
      where
        whole : Taken is_lane n (rest l r) → Taken is_lane n r
        whole t = let q = t.from in let p = m.low in record { lane = t.lane; from = omega (arith, ints); to = t.to }

        left : Taken is_lane n r → Taken is_lane n (rest l r)
        left t = record { lane = t.lane; from = above (int_lt l.to n) refl; to = t.to }
          where
            below : (b : Bool) → int_lt n l.from ≡ b → n ≤ℤ l.to → ⊥
            below true f u = k t (true_lt n l.from f)
            below false f u = h (first_takes l r m t (false_lt n l.from f) u)

            above : (b : Bool) → int_lt l.to n ≡ b → (l.to +ℤ pos 1) ≤ℤ n
            above true f = let g = true_lt l.to n f in omega (arith, ints)
            above false f = absurd (below (int_lt n l.from) refl (false_lt l.to n f))

  -- ---- the loop

  -- what is done, what of the left and what of the right is left to do
  pub record Joins (whole out ls rs : List (Claim K)) : Type 0 where
    pub left : AreApart R (out ++ ls)
    pub right : AreApart R (out ++ rs)
    pub owners : (is_lane : K → Bool) (n : ℤ) → IsLane R is_lane → owner is_lane n (out ++ (ls ++ rs)) ≡ owner is_lane n whole

  pub joins_none : (ls rs : List (Claim K)) → AreApart R ls → AreApart R rs → Joins (ls ++ rs) [] ls rs
  joins_none ls rs h k = record { left = h; right = k; owners = λ is_lane n i. refl }

  pub joins_left : (whole out ls rs : List (Claim K)) (l : Claim K) → BeforeAll R l rs → Joins whole out (l ∷ ls) rs → Joins whole (out ++ l ∷ []) ls rs
  joins_left whole out ls rs l b j = record {
    left = rw append_assoc j.left;
    right = rw append_assoc (apart_with R o out ls rs l j.left j.right b);
    owners = λ is_lane n i. ap (owner is_lane n) (append_assoc out (l ∷ []) (ls ++ rs)) ∙ j.owners is_lane n i;
  }

  pub joins_right : (whole out ls rs : List (Claim K)) (r : Claim K) → BeforeAll R r ls → Joins whole out ls (r ∷ rs) → Joins whole (out ++ r ∷ []) ls rs
  joins_right whole out ls rs r b j = record {
    left = rw append_assoc (apart_with R o out rs ls r j.right j.left b);
    right = rw append_assoc j.right;
    owners = λ is_lane n i.
        ap (owner is_lane n) (append_assoc out (r ∷ []) (ls ++ rs)) ∙ (owner_under is_lane n out (r ∷ (ls ++ rs)) (ls ++ (r ∷ rs)) (owner_moved is_lane n R o i r ls rs b) ∙ j.owners is_lane n i);
  }

  pub joins_drop : (whole out ls rs : List (Claim K)) (l r : Claim K) → Meet l r → r.to ≤ℤ l.to → Joins whole out (l ∷ ls) (r ∷ rs) → Joins whole (out ++ front_of l r) (l ∷ ls) rs
  joins_drop whole out ls rs l r m e j =
      let head = apart_head R o out ls l j.left in
      record {
        left = apart_first out ls rs l r m j.left j.right;
        right = apart_second out ls rs rs l r m j.left j.right (apart_without R o out rs r j.right) (front_before out rs l r m j.right);
        owners = λ is_lane n i.
            ap (owner is_lane n) (append_assoc out (front_of l r) (l ∷ (ls ++ rs)))
            ∙ (owner_under is_lane n out (front_of l r ++ (l ∷ (ls ++ rs))) (l ∷ (ls ++ r ∷ rs)) (meet_owner is_lane n i ls rs rs l r m head.0 head.1 (all_first is_lane n i l r rs m e)) ∙ j.owners is_lane n i);
      }

  pub joins_cut : (whole out ls rs : List (Claim K)) (l r : Claim K) → Meet l r → l.to <ℤ r.to → Joins whole out (l ∷ ls) (r ∷ rs) → Joins whole ((out ++ front_of l r) ++ l ∷ []) ls (rest l r ∷ rs)
  joins_cut whole out ls rs l r m e j =
      let head = apart_head R o out ls l j.left in
      let s = rest l r in
      let n = rest_is l r e in
      let behind = all_within R o s r rs (rest_within l r m) (apart_head R o out rs r j.right).1 in
      let cut : AreApart R (out ++ s ∷ rs) = apart_within R o out rs s r (rest_within l r m) n j.right in
      joins_left whole (out ++ front_of l r) ls (s ∷ rs) l (rest_last l r m, all_on R o l s rs (rest_last l r m) n behind) (record {
        left = apart_first out ls rs l r m j.left j.right;
        right = apart_second out ls rs (s ∷ rs) l r m j.left j.right cut (front_before_rest l r head.0, front_before out rs l r m j.right);
        owners = λ is_lane n i.
            ap (owner is_lane n) (append_assoc out (front_of l r) (l ∷ (ls ++ s ∷ rs)))
            ∙ (owner_under is_lane n out (front_of l r ++ (l ∷ (ls ++ s ∷ rs))) (l ∷ (ls ++ r ∷ rs)) (meet_owner is_lane n i ls rs (s ∷ rs) l r m head.0 head.1 (rest_second is_lane n i l r rs m)) ∙ j.owners is_lane n i);
      })

  -- ---- one step of the loop

  -- a list from an index on
  pub from_index : (xs : List (Claim K)) (i : ℕ) (x : Claim K) → i < length xs → x ≡ get_or xs i x → drop i xs ≡ x ∷ drop (i + 1) xs
  from_index xs i x h e = drop_more xs i x h ∙ ap (λ z. z ∷ drop (i + 1) xs) (sym e)

  at_both : (whole all left right : List (Claim K)) (i j : ℕ) (l r : Claim K) → i < length left → j < length right → l ≡ get_or left i l → r ≡ get_or right j r
      → Joins whole all (drop i left) (drop j right) → Joins whole all (l ∷ drop (i + 1) left) (r ∷ drop (j + 1) right)
  at_both whole all left right i j l r h k e f v =
      subst (λ (xs : List (Claim K)). Joins whole all xs (r ∷ drop (j + 1) right)) (from_index left i l h e)
      (subst (λ (xs : List (Claim K)). Joins whole all (drop i left) xs) (from_index right j r k f) v)

  back_left : (whole all left right : List (Claim K)) (i : ℕ) (l : Claim K) → i < length left → l ≡ get_or left i l → Joins whole all (l ∷ drop (i + 1) left) right → Joins whole all (drop i left) right
  back_left whole all left right i l h e v = subst (λ (xs : List (Claim K)). Joins whole all xs right) (sym (from_index left i l h e)) v

  back_right : (whole all left right : List (Claim K)) (j : ℕ) (r : Claim K) → j < length right → r ≡ get_or right j r → Joins whole all left (r ∷ drop (j + 1) right) → Joins whole all left (drop j right)
  back_right whole all left right j r h e v = subst (λ (xs : List (Claim K)). Joins whole all left xs) (sym (from_index right j r h e)) v

  made : (whole all new ls rs : List (Claim K)) → new ≡ all → Joins whole all ls rs → Joins whole new ls rs
  made whole all new ls rs e v = subst (λ (xs : List (Claim K)). Joins whole xs ls rs) (sym e) v

  -- what lies before the first of a list lies before all of it
  before_list : (out cs : List (Claim K)) (a c : Claim K) → is_before R a c ≡ true → AreApart R (out ++ c ∷ cs) → BeforeAll R a (c ∷ cs)
  before_list out cs a c h k = let q = apart_head R o out cs c k in (h, all_on R o a c cs h q.0 q.1)

  pub step_left : (whole all left right new : List (Claim K)) (i j : ℕ) (l r : Claim K) → i < length left → j < length right → l ≡ get_or left i l → r ≡ get_or right j r
      → is_before R l r ≡ true → new ≡ all ++ l ∷ [] → Joins whole all (drop i left) (drop j right) → Joins whole new (drop (i + 1) left) (drop j right)
  step_left whole all left right new i j l r h k e f b n v =
      let w = at_both whole all left right i j l r h k e f v in
      made whole (all ++ l ∷ []) new (drop (i + 1) left) (drop j right) n
      (back_right whole (all ++ l ∷ []) (drop (i + 1) left) right j r k f
      (joins_left whole all (drop (i + 1) left) (r ∷ drop (j + 1) right) l (before_list all (drop (j + 1) right) l r b w.right) w))

  pub step_right : (whole all left right new : List (Claim K)) (i j : ℕ) (l r : Claim K) → i < length left → j < length right → l ≡ get_or left i l → r ≡ get_or right j r
      → is_before R r l ≡ true → new ≡ all ++ r ∷ [] → Joins whole all (drop i left) (drop j right) → Joins whole new (drop i left) (drop (j + 1) right)
  step_right whole all left right new i j l r h k e f b n v =
      let w = at_both whole all left right i j l r h k e f v in
      made whole (all ++ r ∷ []) new (drop i left) (drop (j + 1) right) n
      (back_left whole (all ++ r ∷ []) left (drop (j + 1) right) i l h e
      (joins_right whole all (l ∷ drop (i + 1) left) (drop (j + 1) right) r (before_list all (drop (i + 1) left) r l b w.left) w))

  pub step_drop : (whole all left right new : List (Claim K)) (i j : ℕ) (l r : Claim K) → i < length left → j < length right → l ≡ get_or left i l → r ≡ get_or right j r
      → is_before R l r ≡ false → is_before R r l ≡ false → int_lt l.to r.to ≡ false → new ≡ all ++ front_of l r → Joins whole all (drop i left) (drop j right)
      → Joins whole new (drop i left) (drop (j + 1) right)
  step_drop whole all left right new i j l r h k e f b d t n v =
      let w = at_both whole all left right i j l r h k e f v in
      made whole (all ++ front_of l r) new (drop i left) (drop (j + 1) right) n
      (back_left whole (all ++ front_of l r) left (drop (j + 1) right) i l h e
      (joins_drop whole all (drop (i + 1) left) (drop (j + 1) right) l r (meet l r b d) (false_lt l.to r.to t) w))

  pub step_cut : (whole all left right mid new : List (Claim K)) (i j : ℕ) (l r s : Claim K) → i < length left → j < length right → l ≡ get_or left i l → r ≡ get_or right j r
      → is_before R l r ≡ false → is_before R r l ≡ false → int_lt l.to r.to ≡ true → mid ≡ all ++ front_of l r → new ≡ mid ++ l ∷ [] → s ≡ rest l r → Joins whole all (drop i left) (drop j right)
      → Joins whole new (drop (i + 1) left) (drop j (set right j s))
  step_cut whole all left right mid new i j l r s h k e f b d t m n q v =
      let w = at_both whole all left right i j l r h k e f v in
      let here : drop j (set right j s) ≡ s ∷ drop (j + 1) right = drop-set right j s k in
      let cut = joins_cut whole all (drop (i + 1) left) (drop (j + 1) right) l r (meet l r b d) (true_lt l.to r.to t) w in
      made whole ((all ++ front_of l r) ++ l ∷ []) new (drop (i + 1) left) (drop j (set right j s)) (n ∙ ap (λ z. z ++ l ∷ []) m)
      (subst (λ (xs : List (Claim K)). Joins whole ((all ++ front_of l r) ++ l ∷ []) (drop (i + 1) left) xs) (sym here)
      (subst (λ (z : Claim K). Joins whole ((all ++ front_of l r) ++ l ∷ []) (drop (i + 1) left) (z ∷ drop (j + 1) right)) (sym q) cut))

  pub still_within : (xs : List (Claim K)) (j : ℕ) (s : Claim K) (n : ℕ) → n ≤ length xs → n ≤ length (set xs j s)
  still_within xs j s n h = rw (length-set xs j s) h

  -- ---- its end

  pub ends_left : (whole all left right found : List (Claim K)) (i j : ℕ) → length left ≤ i → found ≡ (all ++ drop i left) ++ drop j right → Joins whole all (drop i left) (drop j right)
      → AreApart R found × ((is_lane : K → Bool) (n : ℤ) → IsLane R is_lane → owner is_lane n found ≡ owner is_lane n whole)
  ends_left whole all left right found i j h e v =
      let none : drop i left ≡ [] = drop_all i left h in
      let same : found ≡ all ++ drop j right = e ∙ ap (λ z. z ++ drop j right) (ap (λ z. all ++ z) none ∙ append-nil all) in (
        subst (AreApart R) (sym same) v.right,
        λ is_lane n q. ap (owner is_lane n) same ∙ (sym (ap (λ z. owner is_lane n (all ++ (z ++ drop j right))) none) ∙ v.owners is_lane n q),
      )

  pub ends_right : (whole all left right found : List (Claim K)) (i j : ℕ) → length right ≤ j → found ≡ (all ++ drop i left) ++ drop j right → Joins whole all (drop i left) (drop j right)
      → AreApart R found × ((is_lane : K → Bool) (n : ℤ) → IsLane R is_lane → owner is_lane n found ≡ owner is_lane n whole)
  ends_right whole all left right found i j h e v =
      let none : drop j right ≡ [] = drop_all j right h in
      let same : found ≡ all ++ drop i left = e ∙ (ap (λ z. (all ++ drop i left) ++ z) none ∙ append-nil (all ++ drop i left)) in (
        subst (AreApart R) (sym same) v.left,
        λ is_lane n q.
            ap (owner is_lane n) (same ∙ ap (λ z. all ++ z) (sym (append-nil (drop i left)))) ∙ (sym (ap (λ z. owner is_lane n (all ++ (drop i left ++ z))) none) ∙ v.owners is_lane n q),
      )

-- what two halves have is what the whole has
pub halves_owner : {K : Type 0} (is_lane : K → Bool) (n : ℤ) (claims front back left right lefts rights found : List (Claim K)) (m : ℕ) → front ≡ take m claims → back ≡ drop m claims
    → owner is_lane n left ≡ owner is_lane n front → owner is_lane n right ≡ owner is_lane n back → lefts ≡ left → rights ≡ right → owner is_lane n found ≡ owner is_lane n (lefts ++ rights)
    → owner is_lane n found ≡ owner is_lane n claims
halves_owner is_lane n claims front back left right lefts rights found m f b l r e d h =
    let whole : front ++ back ≡ claims = ap (λ z. z ++ back) f ∙ (ap (λ z. take m claims ++ z) b ∙ take-append-drop m claims) in
    h
    ∙ (ap (λ z. owner is_lane n (z ++ rights)) e
    ∙ (ap (λ z. owner is_lane n (left ++ z)) d ∙ (owner_joined is_lane n left front right back l r ∙ ap (owner is_lane n) whole)))
