-- A number that is one of two.
use Rattle.std.specs.Prelude.{ℕ, ◌≤◌, ℤ, ◌≤ℤ◌, ◌⊎◌}
use Rattle.linear.specs.Linear.{Linear, Valuation, number_at, IsBelow}
use Rattle.symbols.specs.Symbols.{Symbols, IsValued, IsClosed, Knows, Gives}

-- whatever numbers symbols stand for: where an expression stands for a number in one of two cases, an expression stands for it
abbrev pub GivesEither : Symbols → Symbols → Symbols → Linear → Symbols → Linear → Linear → Type 0
GivesEither k m a x b y e = (r : Valuation) (n : ℤ) → IsClosed k → IsValued r k → Gives k r (a, x) n ⊎ Gives k r (b, y) n → Gives k r (m, e) n

-- an expression is at most each of two, as far as what is known in its case allows; at least each
pub record IsUnder (a : Symbols) (x : Linear) (b : Symbols) (y z : Linear) : Type 0 where
  pub left : (r : Valuation) → IsValued r a → number_at r z ≤ℤ number_at r x
  pub right : (r : Valuation) → IsValued r b → number_at r z ≤ℤ number_at r y

pub record IsOver (a : Symbols) (x : Linear) (b : Symbols) (y z : Linear) : Type 0 where
  pub left : (r : Valuation) → IsValued r a → number_at r x ≤ℤ number_at r z
  pub right : (r : Valuation) → IsValued r b → number_at r y ≤ℤ number_at r z

-- a number lies between what lies under both and what lies over both, over symbols below a count
pub record LiesBetween (a : Symbols) (x : Linear) (b : Symbols) (y : Linear) (count : ℕ) (r : Valuation) (n : ℤ) : Type 0 where
  pub low : (z : Linear) → IsBelow count z → IsUnder a x b y z → number_at r z ≤ℤ n
  pub high : (z : Linear) → IsBelow count z → IsOver a x b y z → n ≤ℤ number_at r z

-- more is known of an expression whose number lies so
abbrev pub Relates : Symbols → Symbols → Symbols → Linear → Symbols → Linear → ℕ → Linear → Type 0
Relates k m a x b y count e = (r : Valuation) → IsClosed k → IsValued r k → count ≤ k.next → IsBelow k.next e → LiesBetween a x b y count r (number_at r e) → Knows k r m

-- an expression is at least another, as far as what is known allows
abbrev pub IsAtLeast : Symbols → Linear → Linear → Type 0
IsAtLeast k l m = (r : Valuation) → IsValued r k → number_at r m ≤ℤ number_at r l

-- more is known where an expression is at least another
abbrev pub LearnsLeast : Symbols → Symbols → Linear → Linear → Type 0
LearnsLeast k n l m = (r : Valuation) → IsClosed k → IsValued r k → IsBelow k.next l → IsBelow k.next m → number_at r m ≤ℤ number_at r l → Knows k r n
