-- What stands for a number, whatever its symbols stand for.
use Rattle.std.specs.Prelude.{◌≡◌, ℕ, ◌≤◌, ℤ, ◌+ℤ◌, ◌*ℤ◌, length, Option, IfSome}
use Rattle.linear.specs.Linear.{Linear, Valuation, number_at, IsBelow}

-- an expression has this number in all numbers for symbols, and few symbols, which are below each number that is a bound
pub record StandsFor (value : Valuation → ℤ) (IsBound : ℕ → Type 0) (e : Linear) : Type 0 where
  pub number : (r : Valuation) → number_at r e ≡ value r
  pub below : (n : ℕ) → IsBound n → IsBelow n e
  pub few : length e.terms ≤ 32

-- of two expressions
abbrev pub AreBelow : Linear → Linear → ℕ → Type 0
AreBelow l m n = IsBelow n l × IsBelow n m

-- an expression, if there is one, stands for a number that is made of those of two expressions
abbrev pub IsMadeOf : Linear → Linear → (Valuation → ℤ) → Option Linear → Type 0
IsMadeOf l m value o = IfSome o (StandsFor value (AreBelow l m))

-- p times the number of l and q times that of m
abbrev pub combined_at : ℤ → Linear → ℤ → Linear → Valuation → ℤ
combined_at p l q m r = (p *ℤ number_at r l) +ℤ (q *ℤ number_at r m)
