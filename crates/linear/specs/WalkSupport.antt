-- No reader needs this file: it serves the proofs of this crate.
-- A walk along the terms of two expressions, the newest symbol first.
use Rattle.std.specs.Prelude.{◌≡◌, ℕ, ◌<◌, ◌≤◌, ℤ, ◌+ℤ◌, ◌*ℤ◌, List, length, drop}
use Rattle.linear.specs.Linear.{Valuation, sum_at, TermsBelow}

-- what is left of terms, times a factor, is a symbol with a coefficient and what is left behind it
pub record IsTaken (factor : ℤ) (terms : List (ℕ × ℤ)) (at symbol : ℕ) (found : ℤ × ℕ) : Type 0 where
  pub within : found.1 ≤ length terms
  pub below : (n : ℕ) → TermsBelow n (drop at terms) → TermsBelow n (drop found.1 terms)
  pub sum : (r : Valuation) → factor *ℤ sum_at r (drop at terms) ≡ (found.0 *ℤ r symbol) +ℤ (factor *ℤ sum_at r (drop found.1 terms))

-- p times what is left of terms, and q times what is left of others
abbrev pub rest_at : ℤ → List (ℕ × ℤ) → ℕ → ℤ → List (ℕ × ℤ) → ℕ → Valuation → ℤ
rest_at p ts i q us j r = (p *ℤ sum_at r (drop i ts)) +ℤ (q *ℤ sum_at r (drop j us))

-- it is a symbol with a coefficient and what is left behind it
pub record IsStep (p : ℤ) (ts : List (ℕ × ℤ)) (i : ℕ) (q : ℤ) (us : List (ℕ × ℤ)) (j symbol : ℕ) (found : ℤ × ℕ × ℕ) : Type 0 where
  pub left_within : found.1 ≤ length ts
  pub right_within : found.2 ≤ length us
  pub left_below : (n : ℕ) → TermsBelow n (drop i ts) → TermsBelow n (drop found.1 ts)
  pub right_below : (n : ℕ) → TermsBelow n (drop j us) → TermsBelow n (drop found.2 us)
  pub sum : (r : Valuation) → rest_at p ts i q us j r ≡ (found.0 *ℤ r symbol) +ℤ rest_at p ts found.1 q us found.2 r

-- terms with one symbol more
pub record IsPut (old new : List (ℕ × ℤ)) (symbol : ℕ) (coefficient : ℤ) : Type 0 where
  pub few : length new ≤ 32
  pub below : (n : ℕ) → symbol < n → TermsBelow n old → TermsBelow n new
  pub sum : (r : Valuation) → sum_at r new ≡ sum_at r old +ℤ (coefficient *ℤ r symbol)

-- nothing is left of either
abbrev pub NothingLeft : List (ℕ × ℤ) → ℕ → List (ℕ × ℤ) → ℕ → Type 0
NothingLeft ts i us j = (length ts ≤ i) × (length us ≤ j)

-- all that is left of both is below what bounds them
abbrev pub IsNext : List (ℕ × ℤ) → ℕ → List (ℕ × ℤ) → ℕ → ℕ → Type 0
IsNext ts i us j symbol = (n : ℕ) → TermsBelow n (drop i ts) → TermsBelow n (drop j us) → symbol < n

-- terms that are p times some and q times others
pub record AreCombined (p : ℤ) (ts : List (ℕ × ℤ)) (q : ℤ) (us : List (ℕ × ℤ)) (out : List (ℕ × ℤ)) : Type 0 where
  pub few : length out ≤ 32
  pub below : (n : ℕ) → TermsBelow n ts → TermsBelow n us → TermsBelow n out
  pub sum : (r : Valuation) → sum_at r out ≡ (p *ℤ sum_at r ts) +ℤ (q *ℤ sum_at r us)
