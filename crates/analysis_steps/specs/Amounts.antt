-- Amounts that are moved, whatever numbers symbols stand for.
use Rattle.std.specs.Prelude.{◌≡◌, ℤ, pos, ◌+ℤ◌, ◌-ℤ◌, ◌≤ℤ◌, ◌<ℤ◌, int_lt, Bool, true, if◌then◌else◌, Option}
use Rattle.std.specs.Int.{int_min, int_max}
use Rattle.linear.specs.Linear.{Linear, Valuation, number_at, IsBelow, IsFrom, IsUpTo}
use Rattle.linear.specs.Bounded.{IsFromAll, IsUpToAll}
use Rattle.symbols.specs.Symbols.{Symbols, IsValued, IsClosed, Knows, Gives}
use Rattle.symbols.specs.Either.{IsAtLeast}
use Rattle.symbols.specs.Cases.{IsNatural}

-- an expression is above 0, as far as what is known allows
abbrev pub IsAbove : Symbols → Linear → Type 0
IsAbove k l = (r : Valuation) → IsValued r k → pos 0 <ℤ number_at r l

-- .. at most 0
abbrev pub IsNothing : Symbols → Linear → Type 0
IsNothing k l = (r : Valuation) → IsValued r k → number_at r l ≤ℤ pos 0

-- more is known where one expression is at most another, if that is asked
abbrev pub LearnsIf : Bool → Symbols → Symbols → Linear → Linear → Type 0
LearnsIf asked k m l n = (r : Valuation) → IsClosed k → IsValued r k → IsBelow k.next l → IsBelow k.next n → (asked ≡ true → number_at r l ≤ℤ number_at r n) → Knows k r m

-- what is due is shown to be at least 0, and a balance to have it
abbrev pub HasAllDue : Symbols → Linear → Linear → Type 0
HasAllDue k balance due = IsNatural k due × IsAtLeast k balance due

-- what is paid from a balance of an amount that is due: nothing of 0 or less
abbrev pub amount_paid : ℤ → ℤ → ℤ
amount_paid balance due = if int_lt (pos 0) due then int_min balance due else pos 0

-- an expression stands for what is paid
abbrev pub GivesPaid : Symbols → Symbols → Linear → Linear → Linear → Type 0
GivesPaid k m balance due e =
    (r : Valuation) → IsClosed k → IsValued r k → IsBelow k.next balance → IsBelow k.next due → pos 0 ≤ℤ number_at r balance → Gives k r (m, e) (amount_paid (number_at r balance) (number_at r due))

-- .. for what a deposit adds: nothing where 0 or less is due
abbrev pub GivesAdded : Symbols → Symbols → Linear → Linear → Type 0
GivesAdded k m due e = (r : Valuation) → IsClosed k → IsValued r k → IsBelow k.next due → Gives k r (m, e) (int_max (pos 0) (number_at r due))

-- .. for a sum, and for what is left of an amount where a part of it is taken
abbrev pub GivesSum : Symbols → Symbols → Linear → Linear → Linear → Type 0
GivesSum k m l n e = (r : Valuation) → IsClosed k → IsValued r k → IsBelow k.next l → IsBelow k.next n → Gives k r (m, e) (number_at r l +ℤ number_at r n)

abbrev pub GivesRest : Symbols → Symbols → Linear → Linear → Linear → Type 0
GivesRest k m l n e =
    (r : Valuation) → IsClosed k → IsValued r k → IsBelow k.next l → IsBelow k.next n → pos 0 ≤ℤ number_at r n → number_at r n ≤ℤ number_at r l → Gives k r (m, e) (number_at r l -ℤ number_at r n)

-- a lower bound of a sum, and an upper one
abbrev pub IsFromSum : Option ℤ → Option ℤ → Option ℤ → Type 0
IsFromSum a b o = (x y : ℤ) → IsFrom a x → IsFrom b y → IsFrom o (x +ℤ y)

abbrev pub IsUpToSum : Option ℤ → Option ℤ → Option ℤ → Type 0
IsUpToSum a b o = (x y : ℤ) → IsUpTo a x → IsUpTo b y → IsUpTo o (x +ℤ y)

-- .. of the sum of two expressions, as far as what is known allows
abbrev pub SumIsFrom : Symbols → Linear → Linear → Option ℤ → Type 0
SumIsFrom k l n o = IsFromAll k.ranges k.facts (λ r. number_at r l +ℤ number_at r n) o

abbrev pub SumIsUpTo : Symbols → Linear → Linear → Option ℤ → Type 0
SumIsUpTo k l n o = IsUpToAll k.ranges k.facts (λ r. number_at r l +ℤ number_at r n) o
