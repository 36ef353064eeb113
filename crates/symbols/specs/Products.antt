-- Products, and multiples of their factors.
use Rattle.std.specs.Prelude.{◌≡◌, ℤ, pos, ◌+ℤ◌, ◌*ℤ◌, ◌≤ℤ◌, Option, IfSome}
use Rattle.linear.specs.declared.bounds.Bounds.{Bounds}
use Rattle.linear.specs.Linear.{Linear, number_at, Valuation, IsBelow, IsFrom, IsUpTo}
use Rattle.symbols.specs.Symbols.{Symbols, IsValued, IsClosed, Knows}

-- more is known where a sum of two multiples is at least 0
abbrev pub LearnsSum : Symbols → Symbols → ℤ → Linear → ℤ → Linear → Type 0
LearnsSum k m p e q l = (r : Valuation) → IsClosed k → IsValued r k → IsBelow k.next e → IsBelow k.next l → pos 0 ≤ℤ ((p *ℤ number_at r e) +ℤ (q *ℤ number_at r l)) → Knows k r m

-- .. where an expression is no less, or no more, than a multiple of another
abbrev pub LearnsFromMultiple : Symbols → Symbols → Linear → Linear → Option ℤ → Type 0
LearnsFromMultiple k m e l o = (r : Valuation) → IsClosed k → IsValued r k → IsBelow k.next e → IsBelow k.next l → IfSome o (λ c. (c *ℤ number_at r l) ≤ℤ number_at r e) → Knows k r m

abbrev pub LearnsUpToMultiple : Symbols → Symbols → Linear → Linear → Option ℤ → Type 0
LearnsUpToMultiple k m e l o = (r : Valuation) → IsClosed k → IsValued r k → IsBelow k.next e → IsBelow k.next l → IfSome o (λ c. number_at r e ≤ℤ (c *ℤ number_at r l)) → Knows k r m

-- .. where it is the product of two expressions, which lie in ranges
abbrev pub LearnsProduct : Bounds → Bounds → Symbols → Symbols → Linear → Linear → Linear → Type 0
LearnsProduct a b k m l n e =
    (r : Valuation) → IsClosed k → IsValued r k → IsBelow k.next l → IsBelow k.next n → IsBelow k.next e → IsFrom a.least (number_at r l) → IsUpTo a.greatest (number_at r l) → IsFrom b.least (number_at r n) → IsUpTo b.greatest (number_at r n)
    → number_at r e ≡ number_at r l *ℤ number_at r n → Knows k r m
