-- Products of sums.
use Rattle.std.specs.Prelude.{◌≡◌, ℕ, ℤ, ◌+ℤ◌, ◌*ℤ◌}
use Rattle.linear.specs.Linear.{Linear, Valuation, number_at, IsBelow}
use Rattle.symbols.specs.Symbols.{Symbols, IsValued, IsClosed, Gives}

-- an expression is the sum of two, over symbols below a count
pub record IsParted (count : ℕ) (l head tail : Linear) : Type 0 where
  pub first : IsBelow count head
  pub rest : IsBelow count l → IsBelow count tail
  pub number : (r : Valuation) → number_at r l ≡ number_at r head +ℤ number_at r tail

-- .. a multiple of another, over symbols below a count
pub record IsMultiple (count : ℕ) (l e : Linear) (times : ℤ) : Type 0 where
  pub below : IsBelow count e
  pub number : (r : Valuation) → number_at r l ≡ times *ℤ number_at r e

-- whatever numbers symbols stand for: an expression stands for the sum of two
abbrev pub GivesSum : Symbols → Symbols → Linear → Linear → Linear → Type 0
GivesSum k m a b e = (r : Valuation) → IsClosed k → IsValued r k → IsBelow k.next a → IsBelow k.next b → Gives k r (m, e) (number_at r a +ℤ number_at r b)
