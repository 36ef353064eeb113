-- Bounds of numbers that follow from ranges and facts.
use Rattle.std.specs.Prelude.{ℕ, suc, ℤ, pos, ◌*ℤ◌, ◌≤ℤ◌, List, [], ◌∷◌, Option}
use Rattle.linear.specs.declared.bounds.Bounds.{Bounds}
use Rattle.linear.specs.Linear.{Linear, Valuation, number_at, Range, AreInRange, AreNatural, IsFrom, IsUpTo}

-- the ranges of symbols from a number on
abbrev pub numbered : ℕ → List Bounds → List Range
numbered n [] = []
numbered n (b ∷ bs) = record { symbol = n; least = b.least; greatest = b.greatest } ∷ numbered (suc n) bs

-- a number is never below a bound, whatever symbols stand for in their ranges
abbrev pub IsLeast : List Range → (Valuation → ℤ) → ℤ → Type 0
IsLeast es f b = (r : Valuation) → AreInRange r es → b ≤ℤ f r

-- .. where a fact is at least 0
abbrev pub IsLeastBy : List Range → Linear → (Valuation → ℤ) → ℤ → Type 0
IsLeastBy es l f b = (r : Valuation) → AreInRange r es → pos 0 ≤ℤ number_at r l → b ≤ℤ f r

-- an expression is at least 0, whatever symbols stand for, as far as ranges and facts allow
abbrev pub IsShown : List Range → List Linear → Linear → Type 0
IsShown es fs l = (r : Valuation) → AreInRange r es → AreNatural r fs → pos 0 ≤ℤ number_at r l

-- a number is at least each that is m times too small for n
abbrev pub IsRoundedUp : ℤ → ℤ → ℤ → Type 0
IsRoundedUp n m z = (x : ℤ) → n ≤ℤ (m *ℤ x) → z ≤ℤ x

abbrev pub IsFromBy : List Range → Linear → (Valuation → ℤ) → Option ℤ → Type 0
IsFromBy es l f o = (r : Valuation) → AreInRange r es → pos 0 ≤ℤ number_at r l → IsFrom o (f r)

abbrev pub IsUpToBy : List Range → Linear → (Valuation → ℤ) → Option ℤ → Type 0
IsUpToBy es l f o = (r : Valuation) → AreInRange r es → pos 0 ≤ℤ number_at r l → IsUpTo o (f r)

-- a number is never below a bound, nor above one, as far as ranges and facts allow
abbrev pub IsFromAll : List Range → List Linear → (Valuation → ℤ) → Option ℤ → Type 0
IsFromAll es fs f o = (r : Valuation) → AreInRange r es → AreNatural r fs → IsFrom o (f r)

abbrev pub IsUpToAll : List Range → List Linear → (Valuation → ℤ) → Option ℤ → Type 0
IsUpToAll es fs f o = (r : Valuation) → AreInRange r es → AreNatural r fs → IsUpTo o (f r)

-- an expression is below 0, whatever symbols stand for, as far as ranges and facts allow
abbrev pub IsRefuted : List Range → List Linear → Linear → Type 0
IsRefuted es fs l = (r : Valuation) → AreInRange r es → AreNatural r fs → pos 0 ≤ℤ number_at r l → ⊥
