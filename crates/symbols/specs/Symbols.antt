-- What is known of symbols: ranges, facts, products and quotients, and branches; and what leads to what.
use Rattle.std.specs.Prelude.{◌≡◌, ℕ, suc, ◌≤◌, ℤ, pos, ◌*ℤ◌, Bool, true, false, List, [], ◌∷◌}
use Rattle.evaluation.specs.Evaluation.{quotient}
use Rattle.linear.specs.Linear.{Linear, Valuation, number_at, IsBelow, Range, AreInRange, AreNatural, Agree}

-- a product, or a quotient, and the symbol of its number
pub record Operation : Type 0 where
  pub divides : Bool
  pub left : Linear
  pub right : Linear
  pub symbol : ℕ

-- where each of its facts is at least 0, and what is apart isn't 0, the symbol has the number
pub record Branch : Type 0 where
  pub facts : List Linear
  pub apart : List Linear
  pub symbol : ℕ
  pub number : Linear

-- what is known of the symbols below a number
pub record Symbols : Type 0 where
  pub next : ℕ
  pub ranges : List Range
  -- each is at least 0
  pub facts : List Linear
  -- each isn't 0
  pub apart : List Linear
  pub operations : List Operation
  pub branches : List Branch

abbrev pub result : Bool → ℤ → ℤ → ℤ
result true m n = quotient m n
result false m n = m *ℤ n

abbrev pub AreResults : Valuation → List Operation → Type 0
AreResults r [] = Unit {0}
AreResults r (o ∷ os) = (r o.symbol ≡ result o.divides (number_at r o.left) (number_at r o.right)) × AreResults r os

abbrev pub AreApart : Valuation → List Linear → Type 0
AreApart r [] = Unit {0}
AreApart r (d ∷ ds) = (number_at r d ≡ pos 0 → ⊥) × AreApart r ds

abbrev pub AreBranches : Valuation → List Branch → Type 0
AreBranches r [] = Unit {0}
AreBranches r (b ∷ bs) = (AreNatural r b.facts → AreApart r b.apart → r b.symbol ≡ number_at r b.number) × AreBranches r bs

-- all of it holds with these numbers for symbols
pub record IsValued (r : Valuation) (k : Symbols) : Type 0 where
  pub ranges : AreInRange r k.ranges
  pub facts : AreNatural r k.facts
  pub apart : AreApart r k.apart
  pub operations : AreResults r k.operations
  pub branches : AreBranches r k.branches

abbrev pub RangesBelow : ℕ → List Range → Type 0
RangesBelow n [] = Unit {0}
RangesBelow n (e ∷ es) = (suc e.symbol ≤ n) × RangesBelow n es

abbrev pub FactsBelow : ℕ → List Linear → Type 0
FactsBelow n [] = Unit {0}
FactsBelow n (f ∷ fs) = IsBelow n f × FactsBelow n fs

abbrev pub OperationsBelow : ℕ → List Operation → Type 0
OperationsBelow n [] = Unit {0}
OperationsBelow n (o ∷ os) = (suc o.symbol ≤ n) × IsBelow n o.left × IsBelow n o.right × OperationsBelow n os

abbrev pub BranchesBelow : ℕ → List Branch → Type 0
BranchesBelow n [] = Unit {0}
BranchesBelow n (b ∷ bs) = (suc b.symbol ≤ n) × FactsBelow n b.facts × FactsBelow n b.apart × IsBelow n b.number × BranchesBelow n bs

-- it speaks of no other symbols
pub record IsClosed (k : Symbols) : Type 0 where
  pub ranges : RangesBelow k.next k.ranges
  pub facts : FactsBelow k.next k.facts
  pub apart : FactsBelow k.next k.apart
  pub operations : OperationsBelow k.next k.operations
  pub branches : BranchesBelow k.next k.branches

-- ---- what follows from what

-- more is known of the same symbols, in the same numbers
pub record Knows (k : Symbols) (r : Valuation) (m : Symbols) : Type 0 where
  pub next : m.next ≡ k.next
  pub closed : IsClosed m
  pub valued : IsValued r m

-- what is known leads on, in numbers that agree for the symbols so far
pub record Leads (k : Symbols) (r : Valuation) (m : Symbols) : Type 0 where
  pub closed : IsClosed m
  pub grows : k.next ≤ m.next
  pub values : Valuation
  pub agrees : Agree k.next values r
  pub valued : IsValued values m

-- it does, and the expression stands for the number there
pub record Gives (k : Symbols) (r : Valuation) (out : Symbols × Linear) (n : ℤ) : Type 0 where
  pub closed : IsClosed out.0
  pub below : IsBelow out.0.next out.1
  pub grows : k.next ≤ out.0.next
  pub values : Valuation
  pub agrees : Agree k.next values r
  pub valued : IsValued values out.0
  pub number : n ≡ number_at values out.1
