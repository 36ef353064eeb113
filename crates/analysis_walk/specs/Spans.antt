-- What a party is paid of a token, and all that parties are paid where a contract is closed.
use Rattle.std.specs.Prelude.{ℤ, pos, ◌≤ℤ◌, List, Option, Some, IfSome}
use Rattle.std.specs.Option.{unwrap_or}
use Rattle.std.specs.FinMap.Entries.{find}
use Rattle.contract.specs.Names.declared.account.Account.{Account}
use Rattle.contract.specs.Names.declared.party.Party.{Party}
use Rattle.contract.specs.Names.declared.token.Token.{Token}
use Rattle.contract.specs.Names.Orders.{account_cmp}
use Rattle.semantics.specs.Reduction.{account_of}
use Rattle.analysis_spec.specs.declared.paid.PaidRange.{PaidRange}
use Rattle.analysis_walk.specs.declared.span.Span.{Span}

-- a number lies between bounds, where there are such
abbrev pub IsBetween : Option ℤ → Option ℤ → ℤ → Type 0
IsBetween least most n = IfSome least (λ m. m ≤ℤ n) × IfSome most (λ m. n ≤ℤ m)

abbrev pub IsIn : Span → ℤ → Type 0
IsIn x = IsBetween x.least x.most

-- a span has all numbers of another
abbrev pub Contains : Span → Span → Type 0
Contains x y = (n : ℤ) → IsIn y n → IsIn x n

-- a bound from below is no greater than another one, and a bound from above no less: as far as numbers tell
abbrev pub IsNoGreater : Option ℤ → Option ℤ → Type 0
IsNoGreater a b = (n : ℤ) → IfSome b (λ m. m ≤ℤ n) → IfSome a (λ m. m ≤ℤ n)

abbrev pub IsNoLess : Option ℤ → Option ℤ → Type 0
IsNoLess a b = (n : ℤ) → IfSome b (λ m. n ≤ℤ m) → IfSome a (λ m. n ≤ℤ m)

abbrev pub nothing : Span
nothing = record { least = Some (pos 0); most = Some (pos 0) }

-- who isn't named is paid nothing
abbrev pub span_at : List (Account × Span) → Account → Span
span_at spans a = unwrap_or (find account_cmp a spans) nothing

-- what a party is paid of a token, by what is named
abbrev pub range_at : List (Account × Span) → Party → Token → PaidRange
range_at spans p t = let x = span_at spans (account_of p t) in record { party = p; token = t; least = x.least; most = x.most }
