-- What a hasher is fed of a state. No reader needs this file: a hash promises no more than that equal states feed it alike.
use Rattle.std.specs.Prelude.{ℕ, ℤ, List, ◌++◌}
use Rattle.std.specs.FinMap.{entries}
use Rattle.std.specs.Hash as fed
use Rattle.names.specs.declared.account.Account.{Account}
use Rattle.names.specs.declared.choice_id.ChoiceId.{ChoiceId}
use Rattle.names.specs.contracts.account.AccountHash.TheImpl as account_hash
use Rattle.names.specs.contracts.choice_id.ChoiceIdHash.TheImpl as choice_id_hash
use Rattle.states.specs.States.{StateMaps}

abbrev pub account_fed : Account × ℤ → fed.HashWrites
account_fed e = (account_hash.ghosts).hash_input e.0 ++ fed.i128 e.1

abbrev pub choice_fed : ChoiceId × ℤ → fed.HashWrites
choice_fed e = (choice_id_hash.ghosts).hash_input e.0 ++ fed.i128 e.1

abbrev pub bound_fed : List ℕ × ℤ → fed.HashWrites
bound_fed e = fed.str e.0 ++ fed.i128 e.1

-- the entries in the order of their keys, then the minimum time
abbrev pub state_fed : StateMaps → fed.HashWrites
state_fed s = fed.slice account_fed (entries s.accounts) ++ fed.slice choice_fed (entries s.choices) ++ fed.slice bound_fed (entries s.bound_values) ++ fed.i64 s.min_time
