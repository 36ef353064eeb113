-- The ranges of symbols in their order, in parts.
use Rattle.std.specs.Prelude.{◌≡◌, ℕ, ◌+◌, List, [], ◌∷◌, ◌++◌, length, ◌⊎◌, ℤ, pos, ◌≤ℤ◌, Option}
use Rattle.linear.specs.declared.bounds.Bounds.{Bounds}
use Rattle.linear.specs.Linear.{Valuation, IsFrom, IsUpTo, AreInRange, Agree, Linear, number_at}
use Rattle.linear.specs.Bounded.{numbered}

-- parts one behind the other, and what comes behind them
abbrev pub before : List (List Bounds) → List Bounds → List Bounds
before [] bs = bs
before (p ∷ ps) bs = p ++ before ps bs

-- each part has 64
abbrev pub AreFull : List (List Bounds) → Type 0
AreFull [] = Unit {0}
AreFull (p ∷ ps) = (length p ≡ 64) × AreFull ps

-- with ranges from any number on, the symbol at a place lies in a range
abbrev pub IsRangeAt : List Bounds → ℕ → Bounds → Type 0
IsRangeAt bs i b = (n : ℕ) (r : Valuation) → AreInRange r (numbered n bs) → IsFrom b.least (r (n + i)) × IsUpTo b.greatest (r (n + i))

-- a symbol lies in a range
abbrev pub IsRangeOf : List Bounds → ℕ → Bounds → Type 0
IsRangeOf bs x b = (r : Valuation) → AreInRange r (numbered 0 bs) → IsFrom b.least (r x) × IsUpTo b.greatest (r x)

-- as many ranges, from any number on: they hold where the old ones do and the symbol at a place lies in a range
pub record ArePut (bs cs : List Bounds) (i : ℕ) (b : Bounds) : Type 0 where
  pub same : length cs ≡ length bs
  pub ranges : (n : ℕ) (r : Valuation) → AreInRange r (numbered n bs) → IsFrom b.least (r (n + i)) → IsUpTo b.greatest (r (n + i)) → AreInRange r (numbered n cs)

-- ranges from a number on that hold where either of two do, in numbers that agree with theirs
abbrev pub HoldInBoth : ℕ → List Bounds → List Bounds → List Bounds → Type 0
HoldInBoth n bs cs out = (q r : Valuation) → Agree (n + length out) q r → AreInRange q (numbered 0 bs) ⊎ AreInRange q (numbered 0 cs) → AreInRange r (numbered n out)

-- as many ranges: they hold where the old ones do, and either of two in numbers that agree with these
pub record IsHull (bs cs old new : List Bounds) : Type 0 where
  pub same : length new ≡ length old
  pub ranges : (q r : Valuation) → Agree (length old) q r → AreInRange r (numbered 0 old) → AreInRange q (numbered 0 bs) ⊎ AreInRange q (numbered 0 cs) → AreInRange r (numbered 0 new)

-- ---- narrower ranges

-- the range of a symbol where an expression is at least 0
abbrev pub IsRangeBy : List Bounds → Linear → ℕ → Bounds → Type 0
IsRangeBy bs l x b = (r : Valuation) → AreInRange r (numbered 0 bs) → pos 0 ≤ℤ number_at r l → IsFrom b.least (r x) × IsUpTo b.greatest (r x)

-- ranges of the same symbols, narrower where an expression is at least 0
pub record AreNarrowed (bs cs : List Bounds) (l : Linear) : Type 0 where
  pub same : length cs ≡ length bs
  pub ranges : (r : Valuation) → AreInRange r (numbered 0 bs) → pos 0 ≤ℤ number_at r l → AreInRange r (numbered 0 cs)

-- ranges of the same symbols, narrower where one of them lies in another range
pub record AreWithin (bs cs : List Bounds) (x : ℕ) (low high : Option ℤ) : Type 0 where
  pub same : length cs ≡ length bs
  pub ranges : (r : Valuation) → AreInRange r (numbered 0 bs) → IsFrom low (r x) → IsUpTo high (r x) → AreInRange r (numbered 0 cs)

-- .. of ranges in parts, and likewise the hull
abbrev pub PartsWithin : List (List Bounds) → List Bounds → List (List Bounds) → List Bounds → ℕ → Bounds → Type 0
PartsWithin old old_newest new newest x b = AreWithin (before old old_newest) (before new newest) x b.least b.greatest

abbrev pub PartsOfHull : List Bounds → List Bounds → List (List Bounds) → List Bounds → List (List Bounds) → List Bounds → Type 0
PartsOfHull bs cs old old_newest new newest = IsHull bs cs (before old old_newest) (before new newest)
