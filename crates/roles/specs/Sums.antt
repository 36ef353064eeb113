-- What the accounts of a state hold together, token by token.
use Rattle.std.specs.Prelude.{◌≡◌, ℤ, ◌+ℤ◌, List, [], ◌∷◌}
use Rattle.std.specs.FinMap as map
use Rattle.contract.specs.Collections.Positive.{AllPositive}
use Rattle.contract.specs.Names.declared.account.Account.{Account}
use Rattle.contract.specs.Names.declared.token.Token.{Token}
use Rattle.contract.specs.States.States.{StateMaps, total_of}
use Rattle.eutxo.specs.Bundle.Bundles.{Amounts, amount_of, with_amount}

abbrev pub sums_in : List (Account × ℤ) → Amounts
sums_in [] = map.empty
sums_in (e ∷ es) = with_amount (sums_in es) e.0.token (amount_of (sums_in es) e.0.token +ℤ e.1)

abbrev pub sums_of : StateMaps → Amounts
sums_of s = sums_in (map.entries s.accounts)

-- these are the totals by which money is kept
abbrev pub SumsAreTotals : Type 0
SumsAreTotals = (s : StateMaps) (t : Token) → amount_of (sums_of s) t ≡ total_of t s

-- of accounts above 0 the sums are above 0, of each token that they hold
abbrev pub SumsArePositive : Type 0
SumsArePositive = (s : StateMaps) → AllPositive (map.entries s.accounts) → AllPositive (map.entries (sums_of s))
