-- The state that a list of accounts starts.
use Rattle.std.specs.Prelude.{ℤ, pos, Bool, int_lt, List, Option, Some, None, map, if◌then◌else◌}
use Rattle.std.specs.List.{list_all}
use Rattle.std.specs.FinMap.{empty, from_entries}
use Rattle.names.specs.Collections.Repeats.{has_repeat}
use Rattle.names.specs.declared.party.Party.{Party}
use Rattle.names.specs.declared.token.Token.{Token}
use Rattle.names.specs.declared.account.Account.{Account}
use Rattle.names.specs.Orders.{account_cmp}
use Rattle.states.specs.declared.fault.StateFault.{StateFault}
use Rattle.states.specs.declared.fault.StateFault.TheVariants.{NotPositive, Repeated}
use Rattle.states.specs.States.{StateMaps}

-- an owner, a token and an amount as the entry of an account
abbrev pub entry_of : Party × Token × ℤ → Account × ℤ
entry_of row = (record { owner = row.0; token = row.1 }, row.2)

abbrev pub entries_of : List (Party × Token × ℤ) → List (Account × ℤ)
entries_of rows = map entry_of rows

abbrev pub is_positive : Account × ℤ → Bool
is_positive e = int_lt (pos 0) e.1

-- the first fault that applies, memory aside
abbrev pub start_fault : List (Party × Token × ℤ) → Option StateFault
start_fault rows = if list_all is_positive (entries_of rows) then (if has_repeat account_cmp (entries_of rows) then Some Repeated else None) else Some NotPositive

-- just those accounts, and nothing else
abbrev pub start_of : List (Party × Token × ℤ) → ℤ → StateMaps
start_of rows min_time = record { accounts = from_entries (entries_of rows); choices = empty; bound_values = empty; min_time = min_time }
