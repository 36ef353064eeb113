-- What is shown in each of several cases.
use Rattle.std.specs.Prelude.{◌≡◌, ℕ, ℤ, pos, negsuc, ◌-ℤ◌, ◌≤ℤ◌}
use Rattle.linear.specs.Linear.{Linear, Valuation, number_at}
use Rattle.symbols.specs.Symbols.{Symbols, IsValued}

-- an expression is at least 0, as far as what is known allows
abbrev pub IsNatural : Symbols → Linear → Type 0
IsNatural k l = (r : Valuation) → IsValued r k → pos 0 ≤ℤ number_at r l

-- .. where another is
abbrev pub IsNaturalWhere : Symbols → Linear → Linear → Type 0
IsNaturalWhere k fact l = (r : Valuation) → IsValued r k → pos 0 ≤ℤ number_at r fact → pos 0 ≤ℤ number_at r l

-- two expressions have one number
abbrev pub IsSame : Symbols → Linear → Linear → Type 0
IsSame k l e = (r : Valuation) → IsValued r k → number_at r e ≡ number_at r l

-- .. where a symbol has the number of another
abbrev pub IsReplaced : Linear → ℕ → Linear → Linear → Type 0
IsReplaced l x number e = (r : Valuation) → r x ≡ number_at r number → number_at r e ≡ number_at r l

-- one of two expressions is at least 0
abbrev pub AreOpposite : Linear → Linear → Type 0
AreOpposite fact opposite = (r : Valuation) → number_at r opposite ≡ negsuc 0 -ℤ number_at r fact

-- what is known where an expression is at least 0 as well
abbrev pub KnowsFact : Symbols → Linear → Symbols → Type 0
KnowsFact k fact m = (r : Valuation) → IsValued r k → pos 0 ≤ℤ number_at r fact → IsValued r m
