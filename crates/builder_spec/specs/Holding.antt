-- What outputs hold together, and whether that is as much as is wanted.
use Rattle.std.specs.Prelude.{ℤ, pos, int_lt, Bool, not, List, [], ◌∷◌, map, filter, Option}
use Rattle.std.specs.List.{list_any, find}
use Rattle.std.specs.FinMap.{empty, entries}
use Rattle.contract.specs.Collections.Total.{total}
use Rattle.contract.specs.Names.declared.token.Token.{Token}
use Rattle.contract.specs.States.States.{counted}
use Rattle.ledger.specs.Bundle.Bundles.{Amounts, AllPositive, amount_of, plus}
use Rattle.ledger.specs.Bundle.Totals.{total_of}
use Rattle.ledger.specs.Eutxo.Differing.{least}
use Rattle.ledger.specs.declared.look.Unspent.{Unspent}

-- what several hold together, token by token
abbrev pub sums : {A : Type 0} → (A → Amounts) → List A → Amounts
sums held [] = empty
sums held (x ∷ xs) = plus (held x) (sums held xs)

-- outputs hold amounts above 0 alone, as all outputs do
abbrev pub AreBundles : {A : Type 0} → (A → Amounts) → List A → Type 0
AreBundles held [] = Unit {0}
AreBundles held (x ∷ xs) = AllPositive (entries (held x)) × AreBundles held xs

-- what an output holds
abbrev pub amount_in : Unspent → Amounts
amount_in u = u.output.amount

-- one of them holds the token
abbrev pub holds_token : List Unspent → Token → Bool
holds_token us t = list_any (λ u. int_lt (pos 0) (amount_of (amount_in u) t)) us

-- the first of these tokens that none of them holds
abbrev pub first_unheld : List Unspent → List Token → Option Token
first_unheld us ts = find (λ t. not (holds_token us t)) ts

-- how much of a token is wanted, where all of these are
abbrev pub wanted : List (Token × ℤ) → Token → ℤ
wanted ns t = total (λ n. counted t n.0 n.1) ns

-- they hold less of a token than is wanted
abbrev pub lacks : List (Token × ℤ) → List Unspent → Token → Bool
lacks ns us t = int_lt (total_of amount_in t us) (wanted ns t)

-- the least of the wanted tokens of which they do
abbrev pub least_lacking : List (Token × ℤ) → List Unspent → Option Token
least_lacking ns us = least (filter (lacks ns us) (map (λ n. n.0) ns))
