-- Quotients.
use Rattle.std.specs.Prelude.{◌≡◌, ℤ, pos, neg_ℤ, ◌+ℤ◌, ◌*ℤ◌, ◌≤ℤ◌}
use Rattle.evaluation.specs.Evaluation.{quotient}
use Rattle.linear.specs.Linear.{Linear, Valuation, number_at, IsBelow}
use Rattle.symbols.specs.Symbols.{Symbols, IsValued, IsClosed, Knows, Gives}

-- whatever numbers symbols stand for: an expression stands for the quotient of one by a number
abbrev pub GivesQuotient : ℤ → Symbols → Symbols → Linear → Linear → Type 0
GivesQuotient c k m l e = (r : Valuation) → IsClosed k → IsValued r k → IsBelow k.next l → Gives k r (m, e) (quotient (number_at r l) c)

-- what a division by c leaves of a number
abbrev pub left_over : ℤ → ℤ → ℤ
left_over c a = a +ℤ (neg_ℤ (pos 1) *ℤ (c *ℤ quotient a c))

-- more is known of what a division leaves
abbrev pub LearnsRest : Symbols → Symbols → Linear → Linear → ℤ → Type 0
LearnsRest k m l rest c = (r : Valuation) → IsClosed k → IsValued r k → IsBelow k.next l → IsBelow k.next rest → number_at r rest ≡ left_over c (number_at r l) → Knows k r m

-- with so much more, or so much more than its opposite, what a division leaves is at least 0
abbrev pub IsRoom : Symbols → Linear → ℤ → ℤ → Type 0
IsRoom k l c room = (r : Valuation) → IsValued r k → pos 0 ≤ℤ (left_over c (number_at r l) +ℤ room)

abbrev pub IsRoomAbove : Symbols → Linear → ℤ → ℤ → Type 0
IsRoomAbove k l c room = (r : Valuation) → IsValued r k → pos 0 ≤ℤ ((neg_ℤ (pos 1) *ℤ left_over c (number_at r l)) +ℤ room)

-- .. where an expression is the quotient
abbrev pub LearnsQuotient : Symbols → Symbols → Linear → Linear → ℤ → Type 0
LearnsQuotient k m l e c = (r : Valuation) → IsClosed k → IsValued r k → IsBelow k.next l → IsBelow k.next e → number_at r e ≡ quotient (number_at r l) c → Knows k r m

-- .. the quotient of two expressions
abbrev pub LearnsDown : Symbols → Symbols → Linear → Linear → Linear → Type 0
LearnsDown k m l d e =
    (r : Valuation) → IsClosed k → IsValued r k → IsBelow k.next l → IsBelow k.next e → number_at r e ≡ quotient (number_at r l) (number_at r d) → Knows k r m
