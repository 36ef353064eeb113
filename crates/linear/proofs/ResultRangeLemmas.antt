-- The ranges of products.
use Rattle.std.proofs.Common.{◌≡◌, ℤ, pos, ◌*ℤ◌, ◌≤ℤ◌, int_lt, Bool, true, false, Some, refl, subst}
use Rattle.linear.specs.ResultRanges.{AreCorners, IsProductRange}
use Rattle.linear.proofs.NumberLaws.{true_lt, false_lt}
use Rattle.linear.proofs.LinearLaws.{grows, shrinks, lt_le, reach, flipped}

-- a product lies between bounds of the products of the ends
no_less : (low a b x y : ℤ) → a ≤ℤ x → x ≤ℤ b → low ≤ℤ (a *ℤ y) → low ≤ℤ (b *ℤ y) → low ≤ℤ (x *ℤ y)
no_less low a b x y h k l m = subst (λ z. low ≤ℤ z) (flipped y x) (by_sign (int_lt y (pos 0)) refl)
  where
    by_sign : (t : Bool) → int_lt y (pos 0) ≡ t → low ≤ℤ (y *ℤ x)
    by_sign true e = reach low (y *ℤ b) (y *ℤ x) (subst (λ z. low ≤ℤ z) (flipped b y) m) (shrinks y b x (lt_le y (pos 0) (true_lt y (pos 0) e)) k)
    by_sign false e = reach low (y *ℤ a) (y *ℤ x) (subst (λ z. low ≤ℤ z) (flipped a y) l) (grows y a x (false_lt y (pos 0) e) h)

no_more : (high a b x y : ℤ) → a ≤ℤ x → x ≤ℤ b → (a *ℤ y) ≤ℤ high → (b *ℤ y) ≤ℤ high → (x *ℤ y) ≤ℤ high
no_more high a b x y h k l m = subst (λ z. z ≤ℤ high) (flipped y x) (by_sign (int_lt y (pos 0)) refl)
  where
    by_sign : (t : Bool) → int_lt y (pos 0) ≡ t → (y *ℤ x) ≤ℤ high
    by_sign true e = reach (y *ℤ x) (y *ℤ a) high (shrinks y x a (lt_le y (pos 0) (true_lt y (pos 0) e)) h) (subst (λ z. z ≤ℤ high) (flipped a y) l)
    by_sign false e = reach (y *ℤ x) (y *ℤ b) high (grows y x b (false_lt y (pos 0) e) k) (subst (λ z. z ≤ℤ high) (flipped b y) m)

-- bounds of four numbers
pub record AreAround (low high p q s t : ℤ) : Type 0 where
  pub low_p : low ≤ℤ p
  pub low_q : low ≤ℤ q
  pub low_s : low ≤ℤ s
  pub low_t : low ≤ℤ t
  pub high_p : p ≤ℤ high
  pub high_q : q ≤ℤ high
  pub high_s : s ≤ℤ high
  pub high_t : t ≤ℤ high

pub corners_are : (a b c d ca da cb db low high : ℤ) → ca ≡ c *ℤ a → da ≡ d *ℤ a → cb ≡ c *ℤ b → db ≡ d *ℤ b → AreAround low high ca da cb db → AreCorners a b c d (low, high)
corners_are a b c d ca da cb db low high p q s t o = record {
  low = λ x y h k l m.
      no_less low a b x y h k
      (subst (λ z. low ≤ℤ z) (flipped y a) (no_less low c d y a l m (subst (λ z. low ≤ℤ z) p o.low_p) (subst (λ z. low ≤ℤ z) q o.low_q)))
      (subst (λ z. low ≤ℤ z) (flipped y b) (no_less low c d y b l m (subst (λ z. low ≤ℤ z) s o.low_s) (subst (λ z. low ≤ℤ z) t o.low_t)));
  high = λ x y h k l m.
      no_more high a b x y h k
      (subst (λ z. z ≤ℤ high) (flipped y a) (no_more high c d y a l m (subst (λ z. z ≤ℤ high) p o.high_p) (subst (λ z. z ≤ℤ high) q o.high_q)))
      (subst (λ z. z ≤ℤ high) (flipped y b) (no_more high c d y b l m (subst (λ z. z ≤ℤ high) s o.high_s) (subst (λ z. z ≤ℤ high) t o.high_t)));
}

pub corners_range : (a b c d low high : ℤ) → AreCorners a b c d (low, high) → IsProductRange (Some a) (Some b) (Some c) (Some d) (Some low) (Some high)
corners_range a b c d low high h = record { low = h.low; high = h.high }
