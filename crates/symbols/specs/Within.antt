-- What is known where some symbols lie in a range.
use Rattle.std.specs.Prelude.{ℕ, ℤ, Bool, List, [], ◌∷◌}
use Rattle.linear.specs.declared.bounds.Bounds.{Bounds}
use Rattle.linear.specs.Linear.{Valuation, IsFrom, IsUpTo, AreInRange}
use Rattle.linear.specs.Bounded.{numbered}
use Rattle.symbols.specs.Symbols.{Symbols, result, IsValued}

-- each of some symbols lies in a range
abbrev pub LieIn : Valuation → List ℕ → Bounds → Type 0
LieIn r [] b = Unit {0}
LieIn r (x ∷ xs) b = IsFrom b.least (r x) × IsUpTo b.greatest (r x) × LieIn r xs b

-- whatever numbers symbols stand for: what is known where these lie in a range
abbrev pub IsWithin : Symbols → List ℕ → Bounds → Symbols → Type 0
IsWithin k xs b m = (r : Valuation) → IsValued r k → LieIn r xs b → IsValued r m

-- ranges hold where others do and more is true
abbrev pub HoldWhere : (Valuation → Type 0) → List Bounds → List Bounds → Type 0
HoldWhere P bs cs = (r : Valuation) → AreInRange r (numbered 0 bs) → P r → AreInRange r (numbered 0 cs)

-- the products, or the quotients, of numbers in two ranges lie in a range
abbrev pub IsResultRange : Bool → Bounds → Bounds → Bounds → Type 0
IsResultRange d a b c = (x y : ℤ) → IsFrom a.least x → IsUpTo a.greatest x → IsFrom b.least y → IsUpTo b.greatest y → IsFrom c.least (result d x y) × IsUpTo c.greatest (result d x y)
