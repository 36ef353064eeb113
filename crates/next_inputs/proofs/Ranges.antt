-- Numbers in ranges.
use Rattle.std.proofs.Common.{◌≡◌, ℤ, pos, ◌+ℤ◌, ◌≤ℤ◌, ◌<ℤ◌, int_le, int_lt, Bool, true, false, ◌&&◌, ◌||◌, ◌⊎◌, inl, inr, refl, sym, ap, ◌∙◌, arith}
use Rattle.std.proofs.lemmas.Int.{ints}
use Rattle.std.proofs.lemmas.Bool.Decides.{Decides-int_eq}
use Rattle.std.specs.Cmp.{both_ways}
use Rattle.std.specs.Ordering.{int_eq}
use Rattle.claims.proofs.Numbers.{both, le_true, true_le, false_le, lt_true, true_lt, false_lt}
use Rattle.contract.specs.Names.declared.bound.Bound.{Bound}
use Rattle.semantics.specs.Applying.{in_bound}

pub itself : (n : ℤ) → n ≤ℤ n
itself n = omega (arith, ints)

meet : (n e : ℤ) → e ≤ℤ n → n ≤ℤ e → n ≡ e
meet n e h k = omega (arith, ints)

at_most : (n e : ℤ) → n ≡ e → n ≤ℤ e
at_most n e h = omega (arith, ints)

at_least : (n e : ℤ) → n ≡ e → e ≤ℤ n
at_least n e h = omega (arith, ints)

pub true_eq : (a b : ℤ) → int_eq a b ≡ true → a ≡ b
true_eq a b h = (Decides-int_eq a b).0 h

-- a range of one number
pub in_one : (n e : ℤ) → int_le e n && int_le n e ≡ int_eq n e
in_one n e = both_ways (int_le e n && int_le n e) (int_eq n e) to from
  where
    to : int_le e n && int_le n e ≡ true → int_eq n e ≡ true
    to h = let p = both (int_le e n) (int_le n e) h in (Decides-int_eq n e).1 (meet n e (true_le e n p.0) (true_le n e p.1))

    from : int_eq n e ≡ true → int_le e n && int_le n e ≡ true
    from h = let q = true_eq n e h in ap (λ z. z && int_le n e) (le_true e n (at_least n e q)) ∙ le_true n e (at_most n e q)

next_le : (n m : ℤ) → n <ℤ (m +ℤ pos 1) → n ≤ℤ m
next_le n m h = omega (arith, ints)

le_next : (n m : ℤ) → n ≤ℤ m → n <ℤ (m +ℤ pos 1)
le_next n m h = omega (arith, ints)

pub lt_le : (n m : ℤ) → int_lt n (m +ℤ pos 1) ≡ int_le n m
lt_le n m = both_ways (int_lt n (m +ℤ pos 1)) (int_le n m) (λ h. le_true n m (next_le n m (true_lt n (m +ℤ pos 1) h))) (λ h. lt_true n (m +ℤ pos 1) (le_next n m (true_le n m h)))

or_cases : (u v : Bool) → u || v ≡ true → (u ≡ true) ⊎ (v ≡ true)
or_cases true v h = inl refl
or_cases false v h = inr h

within : (a b n : ℤ) → a ≤ℤ n → n ≤ℤ b → int_le a n && int_le n b ≡ true
within a b n h k = ap (λ z. z && int_le n b) (le_true a n h) ∙ le_true n b k

or_true : (u v : Bool) → v ≡ true → u || v ≡ true
or_true true v h = refl
or_true false v h = h

or_left : (u v : Bool) → u ≡ true → u || v ≡ true
or_left true v h = refl
or_left false v h = absurd (cc)

above : (b f n : ℤ) → b +ℤ pos 1 ≡ f → b <ℤ n → f ≤ℤ n
above b f n e h = omega (arith, ints)

under : (b f t n : ℤ) → b +ℤ pos 1 ≡ f → f ≤ℤ t → n ≤ℤ b → n ≤ℤ t
under b f t n e k h = omega (arith, ints)

over : (a b f n : ℤ) → a ≤ℤ b → b +ℤ pos 1 ≡ f → f ≤ℤ n → a ≤ℤ n
over a b f n h e k = omega (arith, ints)

-- two ranges that touch are one
pub one_range : (a b f t n : ℤ) → a ≤ℤ b → b +ℤ pos 1 ≡ f → f ≤ℤ t → int_le a n && int_le n t ≡ (int_le a n && int_le n b) || (int_le f n && int_le n t)
one_range a b f t n h e k = both_ways (int_le a n && int_le n t) ((int_le a n && int_le n b) || (int_le f n && int_le n t)) to from
  where
    by : (c : Bool) → int_le n b ≡ c → a ≤ℤ n → n ≤ℤ t → (int_le a n && int_le n b) || (int_le f n && int_le n t) ≡ true
    by true q l m = or_left (int_le a n && int_le n b) (int_le f n && int_le n t) (within a b n l (true_le n b q))
    by false q l m = or_true (int_le a n && int_le n b) (int_le f n && int_le n t) (within f t n (above b f n e (false_le n b q)) m)

    to : int_le a n && int_le n t ≡ true → (int_le a n && int_le n b) || (int_le f n && int_le n t) ≡ true
    to g = let p = both (int_le a n) (int_le n t) g in by (int_le n b) refl (true_le a n p.0) (true_le n t p.1)

    or : (int_le a n && int_le n b ≡ true) ⊎ (int_le f n && int_le n t ≡ true) → int_le a n && int_le n t ≡ true
    or (inl g) = let p = both (int_le a n) (int_le n b) g in within a t n (true_le a n p.0) (under b f t n e k (true_le n b p.1))
    or (inr g) = let p = both (int_le f n) (int_le n t) g in within a t n (over a b f n h e (true_le f n p.0)) (true_le n t p.1)

    from : (int_le a n && int_le n b) || (int_le f n && int_le n t) ≡ true → int_le a n && int_le n t ≡ true
    from g = or (or_cases (int_le a n && int_le n b) (int_le f n && int_le n t) g)

touching : (a f : ℤ) → a <ℤ f → f ≤ℤ (a +ℤ pos 1) → a +ℤ pos 1 ≡ f
touching a f h k = omega (arith, ints)

-- two ranges that don't touch have a number between them
pub apart_next : (a f : ℤ) → a <ℤ f → int_eq (a +ℤ pos 1) f ≡ false → (a +ℤ pos 1) <ℤ f
apart_next a f h e = by (int_lt (a +ℤ pos 1) f) refl
  where
    by : (b : Bool) → int_lt (a +ℤ pos 1) f ≡ b → (a +ℤ pos 1) <ℤ f
    by true g = true_lt (a +ℤ pos 1) f g
    by false g = let q = (Decides-int_eq (a +ℤ pos 1) f).1 (touching a f h (false_lt (a +ℤ pos 1) f g)) in absurd (cc)
