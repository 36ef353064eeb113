-- The ranges of products and quotients.
use Rattle.std.specs.Prelude.{◌≡◌, ℤ, pos, neg_ℤ, ◌*ℤ◌, ◌≤ℤ◌, Option, Some, None}
use Rattle.evaluation.specs.Evaluation.{quotient}
use Rattle.linear.specs.Linear.{IsFrom, IsUpTo}

-- bounds of the products of numbers in two ranges
pub record AreCorners (a b c d : ℤ) (p : ℤ × ℤ) : Type 0 where
  pub low : (x y : ℤ) → a ≤ℤ x → x ≤ℤ b → c ≤ℤ y → y ≤ℤ d → p.0 ≤ℤ (x *ℤ y)
  pub high : (x y : ℤ) → a ≤ℤ x → x ≤ℤ b → c ≤ℤ y → y ≤ℤ d → (x *ℤ y) ≤ℤ p.1

pub record IsProductRange (a b c d least greatest : Option ℤ) : Type 0 where
  pub low : (x y : ℤ) → IsFrom a x → IsUpTo b x → IsFrom c y → IsUpTo d y → IsFrom least (x *ℤ y)
  pub high : (x y : ℤ) → IsFrom a x → IsUpTo b x → IsFrom c y → IsUpTo d y → IsUpTo greatest (x *ℤ y)

-- .. of the quotients
pub record IsQuotientRange (a b c d least greatest : Option ℤ) : Type 0 where
  pub low : (x y : ℤ) → IsFrom a x → IsUpTo b x → IsFrom c y → IsUpTo d y → IsFrom least (quotient x y)
  pub high : (x y : ℤ) → IsFrom a x → IsUpTo b x → IsFrom c y → IsUpTo d y → IsUpTo greatest (quotient x y)

-- a bound of the quotients of numbers from n on, by numbers from c to d; of numbers up to n
abbrev pub IsLeastQuotient : Option ℤ → ℤ → Option ℤ → Option ℤ → Type 0
IsLeastQuotient n c d least = (x y : ℤ) → IsFrom n x → c ≤ℤ y → IsUpTo d y → IsFrom least (quotient x y)

abbrev pub IsGreatestQuotient : Option ℤ → ℤ → Option ℤ → Option ℤ → Type 0
IsGreatestQuotient n c d greatest = (x y : ℤ) → IsUpTo n x → c ≤ℤ y → IsUpTo d y → IsUpTo greatest (quotient x y)

-- the quotient of n by the greatest divisor, and 0 where there is none
abbrev pub IsByGreatest : ℤ → Option ℤ → ℤ → Type 0
IsByGreatest n None z = z ≡ pos 0
IsByGreatest n (Some d) z = z ≡ quotient n d

-- a bound of numbers with their signs turned
pub record IsTurned (bound opposite : Option ℤ) : Type 0 where
  pub least : (x : ℤ) → IsFrom bound x → IsUpTo opposite (neg_ℤ x)
  pub greatest : (x : ℤ) → IsUpTo bound x → IsFrom opposite (neg_ℤ x)
