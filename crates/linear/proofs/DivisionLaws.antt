-- Quotients of numbers: between which numbers they lie.
use Rattle.std.proofs.Common.{◌≡◌, ℕ, zero, suc, ◌/◌, ◌<◌, ◌≤◌, ℤ, pos, negsuc, neg_ℤ, ◌≤ℤ◌, ◌<ℤ◌, int_lt, Bool, true, false, Option, Some, None, inl, inr, refl, sym, ap, ◌∙◌, subst, arith}
use Rattle.std.proofs.lemmas.Int.{ints}
use Rattle.std.proofs.Math.Nat.{div-mul-le_self, div-le_self, mul-le-mul_left}
use Rattle.std.proofs.lemmas.Nat.{le-div}
use Rattle.std.specs.Option.{IfSome}
use Rattle.evaluation.specs.Evaluation.{quotient}
use Rattle.linear.specs.Linear.{IsFrom, IsUpTo, IsFromEither, IsUpToEither}
use Rattle.linear.specs.ResultRanges.{IsTurned, IsByGreatest, IsLeastQuotient, IsGreatestQuotient, IsQuotientRange}
use Rattle.linear.proofs.NumberLaws.{true_lt, false_lt}
use Rattle.linear.proofs.LinearLaws.{reach, lt_le}

-- ---- signs

-- a quotient of naturals is natural, and no more than the dividend
pub quotient_down : (a b : ℤ) → pos 0 ≤ℤ a → pos 0 ≤ℤ b → (pos 0 ≤ℤ quotient a b) × (quotient a b ≤ℤ a)
unfolding quotient
quotient_down (pos a) (pos zero) h k = (omega (arith, ints), omega (arith, ints))
quotient_down (pos a) (pos (suc b)) h k = let e = div-le_self a (suc b) in (omega (arith, ints), omega (arith, ints))
quotient_down (pos a) (negsuc b) h k = absurd (omega (arith, ints))
quotient_down (negsuc a) b h k = absurd (omega (arith, ints))

twice : (n : ℕ) → neg_ℤ (neg_ℤ (pos n)) ≡ pos n
twice zero = refl
twice (suc n) = refl

pub twice_opposite : (a : ℤ) → neg_ℤ (neg_ℤ a) ≡ a
twice_opposite (pos n) = twice n
twice_opposite (negsuc n) = refl

-- the sign of a divisor moves out
pub sign_moves_out : (a b : ℤ) → quotient a (neg_ℤ b) ≡ neg_ℤ (quotient a b)
unfolding quotient
sign_moves_out a (pos zero) = refl
sign_moves_out (pos a) (pos (suc b)) = refl
sign_moves_out (negsuc a) (pos (suc b)) = sym (twice (suc a / suc b))
sign_moves_out (pos a) (negsuc b) = sym (twice (a / suc b))
sign_moves_out (negsuc a) (negsuc b) = refl

-- ---- naturals

div_grows : (a b k : ℕ) → 0 < k → a ≤ b → a / k ≤ b / k
div_grows a b k h l = let e = div-mul-le_self a k in le-div (a / k) b k h (omega (arith, e))

div_shrinks : (a k m : ℕ) → 0 < k → k ≤ m → a / m ≤ a / k
div_shrinks a k m h l =
    let e = div-mul-le_self a m in
    let f = mul-le-mul_left (a / m) l in
    le-div (a / m) a k h (omega (arith, e, f))

-- ---- a greater dividend, and a divisor further from 0

opposite_below : (a d : ℕ) → neg_ℤ (pos a) ≤ℤ pos d
opposite_below a d = omega (arith, ints)

naturals : (a b : ℕ) → a ≤ b → pos a ≤ℤ pos b
naturals a b h = omega (arith, ints)

opposites : (a b : ℕ) → a ≤ b → neg_ℤ (pos b) ≤ℤ neg_ℤ (pos a)
opposites a b h = omega (arith, ints)

grown : (a b y : ℤ) → pos 0 <ℤ y → a ≤ℤ b → quotient a y ≤ℤ quotient b y
unfolding quotient
grown a b (pos zero) h l = absurd (omega (arith, ints))
grown a b (negsuc y) h l = absurd (omega (arith, ints))
grown (pos a) (pos b) (pos (suc y)) h l = naturals (a / suc y) (b / suc y) (div_grows a b (suc y) (omega arith) (omega (arith, ints)))
grown (pos a) (negsuc b) (pos (suc y)) h l = absurd (omega (arith, ints))
grown (negsuc a) (pos b) (pos (suc y)) h l = opposite_below (suc a / suc y) (b / suc y)
grown (negsuc a) (negsuc b) (pos (suc y)) h l = opposites (suc b / suc y) (suc a / suc y) (div_grows (suc b) (suc a) (suc y) (omega arith) (omega (arith, ints)))

natural_shrinks : (a c d : ℤ) → pos 0 ≤ℤ a → pos 0 <ℤ c → c ≤ℤ d → quotient a d ≤ℤ quotient a c
unfolding quotient
natural_shrinks (negsuc a) c d h k l = absurd (omega (arith, ints))
natural_shrinks (pos a) (pos zero) d h k l = absurd (omega (arith, ints))
natural_shrinks (pos a) (negsuc c) d h k l = absurd (omega (arith, ints))
natural_shrinks (pos a) (pos (suc c)) (pos zero) h k l = absurd (omega (arith, ints))
natural_shrinks (pos a) (pos (suc c)) (negsuc d) h k l = absurd (omega (arith, ints))
natural_shrinks (pos a) (pos (suc c)) (pos (suc d)) h k l = naturals (a / suc d) (a / suc c) (div_shrinks a (suc c) (suc d) (omega arith) (omega (arith, ints)))

opposite_grows : (a c d : ℤ) → a <ℤ pos 0 → pos 0 <ℤ c → c ≤ℤ d → quotient a c ≤ℤ quotient a d
unfolding quotient
opposite_grows (pos a) c d h k l = absurd (omega (arith, ints))
opposite_grows (negsuc a) (pos zero) d h k l = absurd (omega (arith, ints))
opposite_grows (negsuc a) (negsuc c) d h k l = absurd (omega (arith, ints))
opposite_grows (negsuc a) (pos (suc c)) (pos zero) h k l = absurd (omega (arith, ints))
opposite_grows (negsuc a) (pos (suc c)) (negsuc d) h k l = absurd (omega (arith, ints))
opposite_grows (negsuc a) (pos (suc c)) (pos (suc d)) h k l = opposites (suc a / suc d) (suc a / suc c) (div_shrinks (suc a) (suc c) (suc d) (omega arith) (omega (arith, ints)))

-- ---- no further from 0 than the dividend

at_most_opposite : (a b : ℕ) → a ≤ suc b → negsuc b ≤ℤ neg_ℤ (pos a)
at_most_opposite a b h = omega (arith, ints)

zero_above : (b : ℕ) → negsuc b ≤ℤ pos 0
zero_above b = omega (arith, ints)

natural_low : (x y : ℤ) → pos 0 ≤ℤ x → neg_ℤ x ≤ℤ quotient x y
unfolding quotient
natural_low (negsuc x) y h = absurd (omega (arith, ints))
natural_low (pos x) (pos zero) h = opposite_below x 0
natural_low (pos x) (pos (suc y)) h = opposite_below x (x / suc y)
natural_low (pos x) (negsuc y) h = opposites (x / suc y) x (div-le_self x (suc y))

natural_high : (x y : ℤ) → pos 0 ≤ℤ x → quotient x y ≤ℤ x
unfolding quotient
natural_high (negsuc x) y h = absurd (omega (arith, ints))
natural_high (pos x) (pos zero) h = naturals 0 x (omega arith)
natural_high (pos x) (pos (suc y)) h = naturals (x / suc y) x (div-le_self x (suc y))
natural_high (pos x) (negsuc y) h = opposite_below (x / suc y) x

opposite_low : (x y : ℤ) → x <ℤ pos 0 → x ≤ℤ quotient x y
unfolding quotient
opposite_low (pos x) y h = absurd (omega (arith, ints))
opposite_low (negsuc x) (pos zero) h = zero_above x
opposite_low (negsuc x) (pos (suc y)) h = at_most_opposite (suc x / suc y) x (div-le_self (suc x) (suc y))
opposite_low (negsuc x) (negsuc y) h = reach (negsuc x) (pos 0) (pos (suc x / suc y)) (zero_above x) (naturals 0 (suc x / suc y) (omega arith))

opposite_high : (x y : ℤ) → x <ℤ pos 0 → quotient x y ≤ℤ neg_ℤ x
unfolding quotient
opposite_high (pos x) y h = absurd (omega (arith, ints))
opposite_high (negsuc x) (pos zero) h = naturals 0 (suc x) (omega arith)
opposite_high (negsuc x) (pos (suc y)) h = opposite_below (suc x / suc y) (suc x)
opposite_high (negsuc x) (negsuc y) h = naturals (suc x / suc y) (suc x) (div-le_self (suc x) (suc y))

-- by numbers from 0 on, on the dividend's side of 0
opposite_by_natural : (x y : ℤ) → x <ℤ pos 0 → pos 0 ≤ℤ y → quotient x y ≤ℤ pos 0
unfolding quotient
opposite_by_natural (pos x) y h k = absurd (omega (arith, ints))
opposite_by_natural (negsuc x) (negsuc y) h k = absurd (omega (arith, ints))
opposite_by_natural (negsuc x) (pos zero) h k = omega (arith, ints)
opposite_by_natural (negsuc x) (pos (suc y)) h k = opposite_below (suc x / suc y) 0

-- ---- ranges

from_lower : (o : Option ℤ) (m n : ℤ) → IsFrom o m → m ≤ℤ n → IsFrom o n
from_lower None m n h k = tt
from_lower (Some b) m n h k = reach b m n h k

up_to_higher : (o : Option ℤ) (m n : ℤ) → IsUpTo o m → n ≤ℤ m → IsUpTo o n
up_to_higher None m n h k = tt
up_to_higher (Some b) m n h k = reach n m b k h

module _ {P : Type 0} (x : ℤ) (natural : pos 0 ≤ℤ x → P) (opposite : x <ℤ pos 0 → P) where
  by_sign : P
  by_sign = by_test (int_lt x (pos 0)) refl
    where
      by_test : (t : Bool) → int_lt x (pos 0) ≡ t → P
      by_test true e = opposite (true_lt x (pos 0) e)
      by_test false e = natural (false_lt x (pos 0) e)

pub turned_some : (b : ℤ) (o : Option ℤ) → IfSome o (λ n. n ≡ neg_ℤ b) → IsTurned (Some b) o
turned_some b None h = record { least = λ x k. tt; greatest = λ x k. tt }
turned_some b (Some n) h = record { least = λ x k. subst (λ z. neg_ℤ x ≤ℤ z) (sym h) (turn b x k); greatest = λ x k. subst (λ z. z ≤ℤ neg_ℤ x) (sym h) (turn x b k) }
  where
    turn : (m n : ℤ) → m ≤ℤ n → neg_ℤ n ≤ℤ neg_ℤ m
    turn m n h = omega (arith, ints)

pub any_quotients : (a b o p low high : Option ℤ) → IsTurned b o → IsFromEither a o low → IsTurned a p → IsUpToEither b p high → IsQuotientRange a b None None low high
any_quotients a b o p low high s f t g = record {
  low = λ x y h k l m.
      f (quotient x y) (by_sign x (λ n. inr (from_lower o (neg_ℤ x) (quotient x y) (s.greatest x k) (natural_low x y n))) (λ n. inl (from_lower a x (quotient x y) h (opposite_low x y n))));
  high = λ x y h k l m.
      g (quotient x y) (by_sign x (λ n. inl (up_to_higher b x (quotient x y) k (natural_high x y n))) (λ n. inr (up_to_higher p (neg_ℤ x) (quotient x y) (t.least x h) (opposite_high x y n))));
}

pub natural_quotients : (a b low high : Option ℤ) → IsFromEither a (Some (pos 0)) low → IsUpToEither b (Some (pos 0)) high → IsQuotientRange a b (Some (pos 0)) None low high
natural_quotients a b low high f g = record {
  low = λ x y h k l m. f (quotient x y) (by_sign x (λ n. inr (quotient_down x y n l).0) (λ n. inl (from_lower a x (quotient x y) h (opposite_low x y n))));
  high = λ x y h k l m. g (quotient x y) (by_sign x (λ n. inl (up_to_higher b x (quotient x y) k (natural_high x y n))) (λ n. inr (opposite_by_natural x y n l)));
}

pub fewer_divisors : (a b c d low high : Option ℤ) → IsQuotientRange a b c None low high → IsQuotientRange a b c d low high
fewer_divisors a b c d low high q = record { low = λ x y h k l m. q.low x y h k l tt; high = λ x y h k l m. q.high x y h k l tt }

pub of_any : (a b c d low high : Option ℤ) → IsQuotientRange a b None None low high → IsQuotientRange a b c d low high
of_any a b c d low high q = record { low = λ x y h k l m. q.low x y h k tt tt; high = λ x y h k l m. q.high x y h k tt tt }

-- ---- corners

above : (c y : ℤ) → pos 0 <ℤ c → c ≤ℤ y → pos 0 <ℤ y
above c y h k = omega (arith, ints)

pub least_of_opposite : (n c : ℤ) (d o : Option ℤ) → n <ℤ pos 0 → pos 0 <ℤ c → IfSome o (λ z. z ≡ quotient n c) → IsLeastQuotient (Some n) c d o
least_of_opposite n c d None s p e x y h k l = tt
least_of_opposite n c d (Some z) s p e x y h k l =
    subst (λ w. w ≤ℤ quotient x y) (sym e) (reach (quotient n c) (quotient n y) (quotient x y) (opposite_grows n c y s p k) (grown n x y (above c y p k) h))

pub greatest_of_natural : (n c : ℤ) (d o : Option ℤ) → pos 0 ≤ℤ n → pos 0 <ℤ c → IfSome o (λ z. z ≡ quotient n c) → IsGreatestQuotient (Some n) c d o
greatest_of_natural n c d None s p e x y h k l = tt
greatest_of_natural n c d (Some z) s p e x y h k l =
    subst (λ w. quotient x y ≤ℤ w) (sym e) (reach (quotient x y) (quotient n y) (quotient n c) (grown x n y (above c y p k) h) (natural_shrinks n c y s p k))

pub least_of_natural : (n c : ℤ) (d o : Option ℤ) → pos 0 ≤ℤ n → pos 0 <ℤ c → IfSome o (IsByGreatest n d) → IsLeastQuotient (Some n) c d o
least_of_natural n c d None s p e x y h k l = tt
least_of_natural n c None (Some z) s p e x y h k l =
    subst (λ w. w ≤ℤ quotient x y) (sym e) (quotient_down x y (reach (pos 0) n x s h) (lt_le (pos 0) y (above c y p k))).0
least_of_natural n c (Some d) (Some z) s p e x y h k l =
    let q = above c y p k in
    subst (λ w. w ≤ℤ quotient x y) (sym e) (reach (quotient n d) (quotient n y) (quotient x y) (natural_shrinks n y d s q l) (grown n x y q h))

pub greatest_of_opposite : (n c : ℤ) (d o : Option ℤ) → n <ℤ pos 0 → pos 0 <ℤ c → IfSome o (IsByGreatest n d) → IsGreatestQuotient (Some n) c d o
greatest_of_opposite n c d None s p e x y h k l = tt
greatest_of_opposite n c None (Some z) s p e x y h k l =
    subst (λ w. quotient x y ≤ℤ w) (sym e) (opposite_by_natural x y (under x n h s) (lt_le (pos 0) y (above c y p k)))
  where
    under : (x n : ℤ) → x ≤ℤ n → n <ℤ pos 0 → x <ℤ pos 0
    under x n h k = omega (arith, ints)
greatest_of_opposite n c (Some d) (Some z) s p e x y h k l =
    let q = above c y p k in
    subst (λ w. quotient x y ≤ℤ w) (sym e) (reach (quotient x y) (quotient n y) (quotient n d) (grown x n y q h) (opposite_grows n y d s q l))

pub above_quotients : (a b : Option ℤ) (c : ℤ) (d low high : Option ℤ) → IsLeastQuotient a c d low → IsGreatestQuotient b c d high → IsQuotientRange a b (Some c) d low high
above_quotients a b c d low high f g = record { low = λ x y h k l m. f x y h l m; high = λ x y h k l m. g x y k l m }

-- both signs turned
quotient_turned : (x y : ℤ) → neg_ℤ (quotient x (neg_ℤ y)) ≡ quotient x y
quotient_turned x y = ap neg_ℤ (sign_moves_out x y) ∙ twice_opposite (quotient x y)

pub below_quotients : (a b c : Option ℤ) (d up : ℤ) (e l g low high : Option ℤ) → up ≡ neg_ℤ d → IsTurned c e → IsQuotientRange a b (Some up) e l g → IsTurned g low → IsTurned l high
    → IsQuotientRange a b c (Some d) low high
below_quotients a b c d up e l g low high u s q t v = record {
  low = λ x y h k i m.
      subst (λ z. IsFrom low z) (quotient_turned x y) (t.greatest (quotient x (neg_ℤ y)) (q.high x (neg_ℤ y) h k (from_turned d up y u m) (s.least y i)));
  high = λ x y h k i m.
      subst (λ z. IsUpTo high z) (quotient_turned x y) (v.least (quotient x (neg_ℤ y)) (q.low x (neg_ℤ y) h k (from_turned d up y u m) (s.least y i)));
}
  where
    from_turned : (d up y : ℤ) → up ≡ neg_ℤ d → y ≤ℤ d → up ≤ℤ neg_ℤ y
    from_turned d up y u m = omega (arith, ints)
