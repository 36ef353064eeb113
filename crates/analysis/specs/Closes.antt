-- What parties are paid where a contract is closed, account by account.
use Rattle.std.specs.Prelude.{◌≡◌, true, is_some, List, [], ◌∷◌, IfSome}
use Rattle.std.specs.List.{AllByRecursion}
use Rattle.std.specs.FinMap.Entries.{find}
use Rattle.contract.specs.Names.declared.account.Account.{Account}
use Rattle.contract.specs.Names.Orders.{account_cmp}
use Rattle.analysis_walk.specs.Conclusions.{ClosesIn}
use Rattle.analysis_values.specs.Known.{Known, IsDescribed}
use Rattle.analysis_walk.specs.declared.span.Span.{Span}
use Rattle.analysis_walk.specs.Rows.{range_of}

-- the owner of each account that is named is paid so much of its token
abbrev pub ArePaid : Known → List (Account × Span) → Type 0
ArePaid k spans = (a : Account) → IfSome (find account_cmp a spans) (λ x. ClosesIn IsDescribed k (range_of a x ∷ []))

abbrev pub IsNamed : List (Account × Span) → Account → Type 0
IsNamed spans a = is_some (find account_cmp a spans) ≡ true

-- all of these are named
abbrev pub NamesAll : List Account → List (Account × Span) → Type 0
NamesAll accounts spans = AllByRecursion (IsNamed spans) accounts

-- one account more is named
pub record Puts (k : Known) (a : Account) (old new : List (Account × Span)) : Type 0 where
  pub paid : ArePaid k old → ArePaid k new
  pub own : IsNamed new a
  pub kept : (b : Account) → IsNamed old b → IsNamed new b
