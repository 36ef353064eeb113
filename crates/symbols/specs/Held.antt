-- What the code holds of symbols, and what its steps answer.
use Rattle.std.specs.Prelude.{◌≡◌, ℕ, ℤ, pos, ◌+ℤ◌, ◌*ℤ◌, ◌≤ℤ◌, Bool, true, List, [], ◌∷◌, length, drop, Option}
use Rattle.linear.specs.declared.bounds.Bounds.{Bounds}
use Rattle.symbols.specs.declared.named.Named.{Named}
use Rattle.symbols.specs.declared.branched.Branched.{Branched}
use Rattle.linear.specs.Linear.{Linear, Valuation, number_at, IsBelow, IsFrom, IsUpTo}
use Rattle.linear.specs.Bounded.{numbered}
use Rattle.symbols.specs.Symbols.{Symbols, Operation, Branch, AreApart, IsValued, IsClosed, Knows, Gives}

abbrev pub operation_of : Named → Operation
operation_of o = record { divides = o.divides; left = o.left; right = o.right; symbol = o.symbol }

abbrev pub operations_of : List Named → List Operation
operations_of [] = []
operations_of (o ∷ os) = operation_of o ∷ operations_of os

abbrev pub branch_of : Branched → Branch
branch_of b = record { facts = b.facts; apart = b.apart; symbol = b.symbol; number = b.number }

abbrev pub branches_of : List Branched → List Branch
branches_of [] = []
branches_of (b ∷ bs) = branch_of b ∷ branches_of bs

-- the ranges of symbols in their order, facts, what isn't 0, named operations, and branches
abbrev pub symbols_of : List Bounds → List Linear → List Linear → List Operation → List Branch → Symbols
symbols_of bs fs ds os cs = record { next = length bs; ranges = numbered 0 bs; facts = fs; apart = ds; operations = os; branches = cs }

-- a list, without so many of its first
pub record IsNewest {A : Type 0} (xs ys : List A) : Type 0 where
  pub dropped : ℕ
  pub is : ys ≡ drop dropped xs

-- whatever numbers symbols stand for: the expression stands for a number that may be any in the range
abbrev pub GivesAny : Symbols → Symbols → Linear → Option ℤ → Option ℤ → Type 0
GivesAny k m e low high = (r : Valuation) (x : ℤ) → IsClosed k → IsValued r k → IsFrom low x → IsUpTo high x → Gives k r (m, e) x

-- .. by ranges, whatever else is known
abbrev pub RangesGiveAny : List Bounds → List Bounds → Option ℤ → Option ℤ → Linear → Type 0
RangesGiveAny old new low high e = (fs ds : List Linear) (os : List Operation) (cs : List Branch) → GivesAny (symbols_of old fs ds os cs) (symbols_of new fs ds os cs) e low high

-- .. more is known where an expression is at least 0
abbrev pub Learns : Symbols → Symbols → Linear → Type 0
Learns k m l = (r : Valuation) → IsClosed k → IsValued r k → IsBelow k.next l → pos 0 ≤ℤ number_at r l → Knows k r m

-- .. by ranges and facts, whatever else is known
abbrev pub RangesLearn : List Bounds → List Linear → List Bounds → List Linear → Linear → Type 0
RangesLearn old old_facts new new_facts l = (ds : List Linear) (os : List Operation) (cs : List Branch) → Learns (symbols_of old old_facts ds os cs) (symbols_of new new_facts ds os cs) l

-- .. and that is said to be possible
abbrev pub Assumes : Symbols → Symbols → Linear → Bool → Type 0
Assumes k m l possible = (r : Valuation) → IsClosed k → IsValued r k → IsBelow k.next l → pos 0 ≤ℤ number_at r l → (possible ≡ true) × Knows k r m

-- .. or where it isn't 0
abbrev pub Distinguishes : Symbols → Symbols → Linear → Type 0
Distinguishes k m l = (r : Valuation) → IsClosed k → IsValued r k → IsBelow k.next l → (number_at r l ≡ pos 0 → ⊥) → Knows k r m

-- more is known where a symbol lies in a range
abbrev pub KnowsWithin : Symbols → Symbols → ℕ → Option ℤ → Option ℤ → Type 0
KnowsWithin k m x low high = (r : Valuation) → IsClosed k → IsValued r k → IsFrom low (r x) → IsUpTo high (r x) → Knows k r m

-- an expression and q times another are 0 together
abbrev pub Cancels : Linear → ℤ → Linear → Type 0
Cancels d q l = (r : Valuation) → number_at r d +ℤ (q *ℤ number_at r l) ≡ pos 0

-- an expression isn't 0 where another isn't
abbrev pub RulesOut : Linear → Linear → Type 0
RulesOut d l = (r : Valuation) → (number_at r d ≡ pos 0 → ⊥) → number_at r l ≡ pos 0 → ⊥

-- an expression is never 0 where these aren't
abbrev pub IsNever : List Linear → Linear → Type 0
IsNever ds l = (r : Valuation) → AreApart r ds → number_at r l ≡ pos 0 → ⊥

-- over the same symbols, and at least 0 where the other is and these aren't 0
pub record IsSharpened (ds : List Linear) (l e : Linear) : Type 0 where
  pub below : (n : ℕ) → IsBelow n l → IsBelow n e
  pub natural : (r : Valuation) → AreApart r ds → pos 0 ≤ℤ number_at r l → pos 0 ≤ℤ number_at r e
