-- No reader needs this file: it serves the proofs of this crate.
-- Terms that are kept without memory, and an expression of which a symbol was taken out.
use Rattle.std.specs.Prelude.{◌≡◌, ℕ, ◌≤◌, ℤ, pos, ◌+ℤ◌, ◌*ℤ◌, ◌≤ℤ◌, ◌<ℤ◌, List, length, take, drop, Option}
use Rattle.linear.specs.declared.bounds.Bounds.{Bounds}
use Rattle.linear.specs.Linear.{Linear, Valuation, sum_at, number_at, AreInRange, IsFrom}
use Rattle.linear.specs.Bounded.{numbered}
use Rattle.linear.specs.WalkSupport.{IsPut}

-- of a list so many are terms, with one symbol more than so many were
pub record IsPutIn (old new : List (ℕ × ℤ)) (count symbol : ℕ) (coefficient : ℤ) (more : ℕ) : Type 0 where
  pub within : more ≤ length new
  pub put : IsPut (take count old) (take more new) symbol coefficient

-- of a list so many are p times some terms and q times others
pub record IsFilled (p : ℤ) (ts : List (ℕ × ℤ)) (q : ℤ) (us out : List (ℕ × ℤ)) (count : ℕ) : Type 0 where
  pub within : count ≤ length out
  pub sum : (r : Valuation) → sum_at r (take count out) ≡ (p *ℤ sum_at r ts) +ℤ (q *ℤ sum_at r us)

-- a number, so many terms of a list, and a scale: where a fact is at least 0, they are at most that many times what they were
pub record IsTakenOut (constant : ℤ) (ts : List (ℕ × ℤ)) (fact : Linear) (out : List (ℕ × ℤ)) (found : ℤ × ℕ × ℤ) : Type 0 where
  pub within : found.1 ≤ length out
  pub positive : pos 0 <ℤ found.2
  pub below : (r : Valuation) → pos 0 ≤ℤ number_at r fact → (found.0 +ℤ sum_at r (take found.1 out)) ≤ℤ (found.2 *ℤ (constant +ℤ sum_at r ts))

-- a number is a constant with the least that the first of some terms can be: with the others it is never above the constant with all
abbrev pub AddsLeastOfFirst : List Bounds → ℤ → List (ℕ × ℤ) → ℤ → Type 0
AddsLeastOfFirst bs m ts n = (r : Valuation) → AreInRange r (numbered 0 bs) → (n +ℤ sum_at r (drop 1 ts)) ≤ℤ (m +ℤ sum_at r ts)

-- what bounds a multiple, rounded up, bounds the number
abbrev pub RoundsUp : ℤ → Option ℤ → Option ℤ → Type 0
RoundsUp m o z = (x : ℤ) → IsFrom o (m *ℤ x) → IsFrom z x
