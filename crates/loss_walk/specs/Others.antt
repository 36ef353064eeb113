-- What parties are paid beside one: no less than that one loses.
use Rattle.std.specs.Prelude.{ℤ, pos, ◌+ℤ◌, ◌≤ℤ◌, cond, Bool, not, ◌&&◌, List, [], ◌∷◌, IfSome}
use Rattle.std.specs.List.{AllByRecursion}
use Rattle.contract.specs.Names.declared.account.Account.{Account}
use Rattle.contract.specs.Names.Equal.{same_party, same_token}
use Rattle.contract.specs.declared.payment.Payment.{Payment}
use Rattle.analysis_spec.specs.declared.paid.PaidRange.{PaidRange}
use Rattle.analysis_spec.specs.Runs.{paid_to}

-- a range of the same token, and of another party
abbrev pub is_other : Account → PaidRange → Bool
is_other a r = same_token a.token r.token && not (same_party a.owner r.party)

-- what they are paid by payments
abbrev pub others_paid : Account → List PaidRange → List Payment → ℤ
others_paid a [] ps = pos 0
others_paid a (r ∷ rs) ps = cond (is_other a r) (paid_to r.party r.token ps) (pos 0) +ℤ others_paid a rs ps

-- payments that stay within the ranges
abbrev pub StayWithin : List PaidRange → List Payment → Type 0
StayWithin ranges ps = AllByRecursion (λ (r : PaidRange). IfSome r.most (λ n. paid_to r.party r.token ps ≤ℤ n)) ranges

-- such payments pay the others no more than this
abbrev pub ArePaidAtMost : Account → List PaidRange → ℤ → Type 0
ArePaidAtMost a ranges n = (ps : List Payment) → StayWithin ranges ps → others_paid a ranges ps ≤ℤ n

-- .. and that is no less than 0
abbrev pub PaidSoFar : Account → List PaidRange → ℤ → Type 0
PaidSoFar a ranges n = (pos 0 ≤ℤ n) × ArePaidAtMost a ranges n

-- with the most of one more range
abbrev pub AddsRange : Account → PaidRange → ℤ → ℤ → Type 0
AddsRange a r most n = (pos 0 ≤ℤ n) × ((o : ℤ) → IfSome r.most (λ k. o ≤ℤ k) → (most +ℤ cond (is_other a r) o (pos 0)) ≤ℤ n)
