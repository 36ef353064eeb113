-- A walk along the terms of two expressions.
use Rattle.std.proofs.Common.{◌≡◌, ℕ, zero, suc, ◌+◌, ◌<◌, ◌≤◌, ℤ, pos, ◌+ℤ◌, ◌*ℤ◌, List, [], ◌∷◌, ◌++◌, length, drop, get_or, refl, sym, ap, ◌∙◌, subst, arith, length-append, take}
use Rattle.std.proofs.lemmas.Int.{ints}
use Rattle.std.proofs.lemmas.List.{drop_more}
use Rattle.linear.specs.Linear.{Valuation, sum_at, TermsBelow}
use Rattle.linear.specs.WalkSupport.{IsTaken, rest_at, IsStep, IsPut, IsNext, AreCombined}
use Rattle.linear.proofs.LinearLaws.{spread_left, spread_right, times_assoc, zero_plus, joined}

-- what was put, and what is left, are the whole
pub record IsWalk (p : ℤ) (ts : List (ℕ × ℤ)) (i : ℕ) (q : ℤ) (us : List (ℕ × ℤ)) (j : ℕ) (out : List (ℕ × ℤ)) : Type 0 where
  pub few : length out ≤ 32
  pub left_within : i ≤ length ts
  pub right_within : j ≤ length us
  pub left_below : (n : ℕ) → TermsBelow n ts → TermsBelow n (drop i ts)
  pub right_below : (n : ℕ) → TermsBelow n us → TermsBelow n (drop j us)
  pub below : (n : ℕ) → TermsBelow n ts → TermsBelow n us → TermsBelow n out
  pub sum : (r : Valuation) → sum_at r out +ℤ rest_at p ts i q us j r ≡ (p *ℤ sum_at r ts) +ℤ (q *ℤ sum_at r us)

carried : (o c x s w : ℤ) → o +ℤ x ≡ w → x ≡ c +ℤ s → (o +ℤ c) +ℤ s ≡ w
carried o c x s w h k = omega (arith, ints)

pub walk_on : (p : ℤ) (ts : List (ℕ × ℤ)) (i : ℕ) (q : ℤ) (us : List (ℕ × ℤ)) (j : ℕ) (old new : List (ℕ × ℤ)) (symbol : ℕ) (found : ℤ × ℕ × ℕ)
    → IsWalk p ts i q us j old → IsNext ts i us j symbol → IsStep p ts i q us j symbol found → IsPut old new symbol found.0 → IsWalk p ts found.1 q us found.2 new
walk_on p ts i q us j old new symbol found w x s o = record {
  few = o.few;
  left_within = s.left_within;
  right_within = s.right_within;
  left_below = λ n h. s.left_below n (w.left_below n h);
  right_below = λ n h. s.right_below n (w.right_below n h);
  below = λ n h k. o.below n (x n (w.left_below n h) (w.right_below n k)) (w.below n h k);
  sum = λ r. ap (λ z. z +ℤ rest_at p ts found.1 q us found.2 r) (o.sum r) ∙ carried (sum_at r old) (found.0 *ℤ r symbol) (rest_at p ts i q us j r) (rest_at p ts found.1 q us found.2 r)
      ((p *ℤ sum_at r ts) +ℤ (q *ℤ sum_at r us)) (w.sum r) (s.sum r);
}

pub drop_all : (ts : List (ℕ × ℤ)) (i : ℕ) → length ts ≤ i → drop i ts ≡ []
drop_all [] zero h = refl
drop_all [] (suc i) h = refl
drop_all (t ∷ ts) zero h = absurd (omega arith)
drop_all (t ∷ ts) (suc i) h = drop_all ts i (omega arith)

nothing_left : (p q o w : ℤ) → o +ℤ ((p *ℤ pos 0) +ℤ (q *ℤ pos 0)) ≡ w → o ≡ w
nothing_left p q o w h = omega (arith, ints)

pub walked : (p : ℤ) (ts : List (ℕ × ℤ)) (i : ℕ) (q : ℤ) (us : List (ℕ × ℤ)) (j : ℕ) (out : List (ℕ × ℤ)) → IsWalk p ts i q us j out → length ts ≤ i → length us ≤ j → AreCombined p ts q us out
walked p ts i q us j out w h k = record {
  few = w.few;
  below = w.below;
  sum = λ r.
      nothing_left p q (sum_at r out) ((p *ℤ sum_at r ts) +ℤ (q *ℤ sum_at r us))
      (subst (λ xs. sum_at r out +ℤ ((p *ℤ sum_at r xs) +ℤ (q *ℤ pos 0)) ≡ (p *ℤ sum_at r ts) +ℤ (q *ℤ sum_at r us)) (drop_all ts i h)
      (subst (λ xs. sum_at r out +ℤ ((p *ℤ sum_at r (drop i ts)) +ℤ (q *ℤ sum_at r xs)) ≡ (p *ℤ sum_at r ts) +ℤ (q *ℤ sum_at r us)) (drop_all us j k) (w.sum r)));
}

-- the first term is taken
pub taken_first : (factor c : ℤ) (ts : List (ℕ × ℤ)) (at symbol : ℕ) (d : ℕ × ℤ) → at < length ts → (get_or ts at d).0 ≡ symbol → c ≡ factor *ℤ (get_or ts at d).1
    → IsTaken factor ts at symbol (c, at + 1)
taken_first factor c ts at symbol d l is e =
    let f = drop_more ts at d l in
    let t = get_or ts at d in
    record {
      within = omega arith;
      below = λ n h. (subst (TermsBelow n) f h).1;
      sum = λ r.
          ap (λ xs. factor *ℤ sum_at r xs) f ∙ spread_right factor (t.1 *ℤ r t.0) (sum_at r (drop (at + 1) ts))
          ∙ ap (λ z. z +ℤ (factor *ℤ sum_at r (drop (at + 1) ts))) (sym (times_assoc factor t.1 (r t.0)) ∙ ap (λ z. z *ℤ r t.0) (sym e) ∙ ap (λ z. c *ℤ r z) is);
    }

both_taken : (x y a b u v s t : ℤ) → x ≡ u +ℤ s → y ≡ v +ℤ t → x +ℤ y ≡ (u +ℤ v) +ℤ (s +ℤ t)
both_taken x y a b u v s t h k = omega (arith, ints)

-- a step along both
pub step_is : (p : ℤ) (ts : List (ℕ × ℤ)) (i : ℕ) (q : ℤ) (us : List (ℕ × ℤ)) (j symbol : ℕ) (a b c : ℤ) (k l : ℕ)
    → IsTaken p ts i symbol (a, k) → IsTaken q us j symbol (b, l) → c ≡ a +ℤ b → IsStep p ts i q us j symbol (c, k, l)
step_is p ts i q us j symbol a b c k l x y e = record {
  left_within = x.within;
  right_within = y.within;
  left_below = x.below;
  right_below = y.below;
  sum = λ r.
      both_taken (p *ℤ sum_at r (drop i ts)) (q *ℤ sum_at r (drop j us)) a b (a *ℤ r symbol) (b *ℤ r symbol) (p *ℤ sum_at r (drop k ts)) (q *ℤ sum_at r (drop l us)) (x.sum r) (y.sum r)
      ∙ ap (λ z. z +ℤ rest_at p ts k q us l r) (sym (spread_left a b (r symbol)) ∙ ap (λ z. z *ℤ r symbol) (sym e));
}

pub sum_append : (r : Valuation) (ts us : List (ℕ × ℤ)) → sum_at r (ts ++ us) ≡ sum_at r ts +ℤ sum_at r us
sum_append r [] us = zero_plus (sum_at r us)
sum_append r (t ∷ ts) us = ap (λ z. (t.1 *ℤ r t.0) +ℤ z) (sum_append r ts us) ∙ sym (joined (t.1 *ℤ r t.0) (sum_at r ts) (sum_at r us))

pub below_append : (n : ℕ) (ts us : List (ℕ × ℤ)) → TermsBelow n ts → TermsBelow n us → TermsBelow n (ts ++ us)
below_append n [] us h k = k
below_append n (t ∷ ts) us h k = (h.0, below_append n ts us h.1 k)

end_sum : (a b : ℤ) → a +ℤ (b +ℤ pos 0) ≡ a +ℤ b
end_sum a b = omega (arith, ints)

pub put_is : (old new : List (ℕ × ℤ)) (symbol : ℕ) (coefficient : ℤ) → length old < 32 → new ≡ old ++ (symbol, coefficient) ∷ [] → IsPut old new symbol coefficient
put_is old new symbol coefficient l e = record {
  few = subst (λ xs. length xs ≤ 32) (sym e) (omega (arith, length-append old ((symbol, coefficient) ∷ [])));
  below = λ n h k. subst (TermsBelow n) (sym e) (below_append n old ((symbol, coefficient) ∷ []) k (h, tt));
  sum = λ r. ap (sum_at r) e ∙ sum_append r old ((symbol, coefficient) ∷ []) ∙ end_sum (sum_at r old) (coefficient *ℤ r symbol);
}

-- ---- symbols below a number

below_next : (n : ℕ) (ts : List (ℕ × ℤ)) (i : ℕ) (d : ℕ × ℤ) → i < length ts → TermsBelow n (take i ts) → (get_or ts i d).0 < n → TermsBelow n (take (suc i) ts)
below_next n [] i d l h k = absurd (omega arith)
below_next n (t ∷ ts) zero d l h k = (k, tt)
below_next n (t ∷ ts) (suc i) d l h k = (h.0, below_next n ts i d (omega arith) h.1 k)

pub below_take : (n : ℕ) (ts : List (ℕ × ℤ)) (i : ℕ) (d : ℕ × ℤ) → i < length ts → TermsBelow n (take i ts) → (get_or ts i d).0 < n → TermsBelow n (take (i + 1) ts)
below_take n ts i d l h k = let e : suc i ≡ i + 1 = omega arith in subst (λ m. TermsBelow n (take m ts)) e (below_next n ts i d l h k)
