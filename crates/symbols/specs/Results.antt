-- Products and quotients that have a symbol.
use Rattle.std.specs.Prelude.{◌≡◌, ℕ, ◌<◌, ℤ, ◌*ℤ◌, Bool, List, Option}
use Rattle.linear.specs.declared.bounds.Bounds.{Bounds}
use Rattle.symbols.specs.declared.named.Named.{Named}
use Rattle.linear.specs.Linear.{Linear, Valuation, number_at, IsBelow, IsFrom, IsUpTo}
use Rattle.symbols.specs.Symbols.{Symbols, Operation, Branch, result, AreResults, OperationsBelow, IsValued, IsClosed, Gives}
use Rattle.symbols.specs.Held.{symbols_of, operations_of}

-- whatever numbers symbols stand for: an expression stands for the product or quotient of two
abbrev pub GivesResult : Bool → Symbols → Symbols → Linear → Linear → Linear → Type 0
GivesResult d k m l n e = (r : Valuation) → IsClosed k → IsValued r k → IsBelow k.next l → IsBelow k.next n → Gives k r (m, e) (result d (number_at r l) (number_at r n))

-- .. where that lies in a range
abbrev pub GivesInRange : Bool → Option ℤ → Option ℤ → Symbols → Symbols → Linear → Linear → Linear → Type 0
GivesInRange d low high k m l n e =
    (r : Valuation) → IsClosed k → IsValued r k → IsBelow k.next l → IsBelow k.next n → IsFrom low (result d (number_at r l) (number_at r n)) → IsUpTo high (result d (number_at r l) (number_at r n))
    → Gives k r (m, e) (result d (number_at r l) (number_at r n))

-- .. by ranges and operations, whatever facts and branches there are
abbrev pub NamesInRange : Bool → Bounds → List Bounds → List Named → List Bounds → List Named → Linear → Linear → Linear → Type 0
NamesInRange d b old old_operations new new_operations l n e =
    (fs ds : List Linear) (cs : List Branch) → GivesInRange d b.least b.greatest (symbols_of old fs ds (operations_of old_operations) cs) (symbols_of new fs ds (operations_of new_operations) cs) l n e

-- .. or for a multiple of one
abbrev pub GivesMultiple : ℤ → Symbols → Symbols → Linear → Linear → Type 0
GivesMultiple c k m l e = (r : Valuation) → IsClosed k → IsValued r k → IsBelow k.next l → Gives k r (m, e) (c *ℤ number_at r l)

-- an operation is that of two expressions
pub record IsOf (o : Named) (d : Bool) (l m : Linear) : Type 0 where
  pub divides : o.divides ≡ d
  pub left : (r : Valuation) → number_at r l ≡ number_at r o.left
  pub right : (r : Valuation) → number_at r m ≡ number_at r o.right

abbrev pub IsSymbolOf : Named → Bool → Linear → Linear → ℕ → Type 0
IsSymbolOf o d l m x = IsOf o d l m × (x ≡ o.symbol)

-- a symbol is that of an operation of two expressions
pub record IsNamed (os : List Operation) (d : Bool) (l m : Linear) (x : ℕ) : Type 0 where
  pub below : (n : ℕ) → OperationsBelow n os → x < n
  pub value : (r : Valuation) → AreResults r os → r x ≡ result d (number_at r l) (number_at r m)
