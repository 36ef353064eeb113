-- A state of a contract (Marlowe specification version 3, "State and environment"), as finite maps.
use Rattle.std.specs.Prelude.{ℕ, ℤ, pos, cond, List}
use Rattle.std.specs.Option.{unwrap_or}
use Rattle.std.specs.Ordering.{int_eq}
use Rattle.std.specs.FinMap as map
use Rattle.std.specs.FinMap.{FinMap}
pub use Rattle.names.specs.Collections.Positive.{AllPositive}
use Rattle.names.specs.Collections.Total.{total}
use Rattle.names.specs.declared.token.Token.{Token}
use Rattle.names.specs.declared.account.Account.{Account}
use Rattle.names.specs.declared.choice_id.ChoiceId.{ChoiceId}
use Rattle.names.specs.Equal.{same_token}
use Rattle.names.specs.Orders.{bytes_cmp, account_cmp, choice_id_cmp}

-- accounts, choices, bound values and the minimum time
pub record StateMaps : Type 0 where
  pub accounts : FinMap account_cmp ℤ
  pub choices : FinMap choice_id_cmp ℤ
  pub bound_values : FinMap bytes_cmp ℤ
  pub min_time : ℤ

-- the state with these entries, in the order of their keys
abbrev pub of_entries : List (Account × ℤ) → List (ChoiceId × ℤ) → List (List ℕ × ℤ) → ℤ → StateMaps
of_entries accounts choices bound_values min_time = record { accounts = map.from_sorted accounts; choices = map.from_sorted choices; bound_values = map.from_sorted bound_values; min_time = min_time }

-- what an account has: 0 where it has no entry
abbrev pub money_of : StateMaps → Account → ℤ
money_of s account = unwrap_or (map.get s.accounts account) (pos 0)

-- the state with an amount in an account, which 0 removes
abbrev pub with_money : StateMaps → Account → ℤ → StateMaps
with_money s account amount = record s { accounts = cond (int_eq amount (pos 0)) (map.remove s.accounts account) (map.insert s.accounts account amount) }

-- an amount of a token, counted for that token alone
abbrev pub counted : Token → Token → ℤ → ℤ
counted token t amount = cond (same_token token t) amount (pos 0)

-- what an entry has of a token
abbrev pub in_token : Token → Account × ℤ → ℤ
in_token token e = counted token e.0.token e.1

-- how much of a token all accounts have
abbrev pub total_of : Token → StateMaps → ℤ
total_of token s = total (in_token token) (map.entries s.accounts)
