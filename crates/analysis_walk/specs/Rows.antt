-- What a party is paid of a token over closes, of which a row tells.
use Rattle.std.specs.Prelude.{◌≡◌, ℕ, suc, ◌<◌, ◌≤◌, ℤ, pos, List, ◌⊎◌, Option, Some, None, IfSome}
use Rattle.std.specs.List.{AllByRecursion}
use Rattle.std.specs.FinMap.Entries.{find}
use Rattle.contract.specs.Names.declared.account.Account.{Account}
use Rattle.contract.specs.Names.declared.party.Party.{Party}
use Rattle.contract.specs.Names.declared.token.Token.{Token}
use Rattle.contract.specs.Names.Orders.{account_cmp}
use Rattle.semantics.specs.Reduction.{account_of}
use Rattle.analysis_spec.specs.declared.paid.PaidRange.{PaidRange}
use Rattle.analysis_walk.specs.declared.row.Row.{Row}
use Rattle.analysis_walk.specs.declared.span.Span.{Span}
use Rattle.analysis_spec.specs.Analysed.{IsUnnamed}
use Rattle.analysis_walk.specs.Spans.{IsBetween, IsIn, Contains, span_at}

-- a number that may be paid at one of so many closes: one in the span of the row, and 0 where one of them doesn't name it
abbrev pub IsPaid : ℕ → Option Row → ℤ → Type 0
IsPaid count None n = n ≡ pos 0
IsPaid count (Some row) n = IsIn row.span n ⊎ ((row.met < count) × (n ≡ pos 0))

-- the row after one more close that names it, before which there were so many
pub record Names (before : ℕ) (row : Option Row) (span : Span) (new : Row) : Type 0 where
  pub own : IfSome row (λ r. Contains new.span r.span)
  pub other : Contains new.span span
  pub kept : (n : ℤ) → 0 < before → IsPaid before row n → IsPaid before (Some new) n
  pub met : new.met ≤ suc before

-- no row tells of more closes than there were
abbrev pub AreMet : List (Account × Row) → ℕ → Type 0
AreMet rows count = (a : Account) → IfSome (find account_cmp a rows) (λ row. row.met ≤ count)

-- the owner of an account may be paid so much of its token at a close
abbrev pub IsPaidAt : List (Account × Row) → ℕ → Account → ℤ → Type 0
IsPaidAt rows count a n = (0 < count) × IsPaid count (find account_cmp a rows) n

-- what may be paid with one more close, at which this is paid: what might be paid before, and this
pub record Adds (old : List (Account × Row)) (before : ℕ) (new : List (Account × Row)) (spans : List (Account × Span)) : Type 0 where
  pub kept : (a : Account) (n : ℤ) → IsPaidAt old before a n → IsPaidAt new (suc before) a n
  pub added : (a : Account) (n : ℤ) → IsIn (span_at spans a) n → IsPaidAt new (suc before) a n

-- a range has all that may be paid at a close
abbrev pub IsBounded : List (Account × Row) → ℕ → PaidRange → Type 0
IsBounded rows count r = (n : ℤ) → IsPaidAt rows count (account_of r.party r.token) n → IsBetween r.least r.most n

abbrev pub AreBounded : List (Account × Row) → ℕ → List PaidRange → Type 0
AreBounded rows count = AllByRecursion (IsBounded rows count)

abbrev pub range_of : Account → Span → PaidRange
range_of a x = record { party = a.owner; token = a.token; least = x.least; most = x.most }

-- where no range is of them there is no row
abbrev pub NameAll : List (Account × Row) → List PaidRange → Type 0
NameAll rows ranges = (p : Party) (t : Token) → IsUnnamed ranges p t → find account_cmp (account_of p t) rows ≡ None
