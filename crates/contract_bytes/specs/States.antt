-- How a state (Marlowe specification version 3, "State and environment") is spelled in bytes: what its accounts hold,
-- the numbers chosen and the values bound, each list in the order of its keys, then the minimum time.
use Rattle.std.specs.Prelude.{ℕ, ℤ, List, ◌++◌}
use Rattle.std.specs.FinMap.{entries}
use Rattle.contract.specs.Names.declared.account.Account.{Account}
use Rattle.contract.specs.Names.declared.choice_id.ChoiceId.{ChoiceId}
use Rattle.contract.specs.States.States.{StateMaps}
use Rattle.contract_bytes.specs.Numbers.{number_bytes, time_bytes, text_bytes, list_bytes, NumberFits, TimeFits, TextFits, ListFits}
use Rattle.contract_bytes.specs.Names.{party_bytes, token_bytes, choice_id_bytes, PartyFits, TokenFits, ChoiceIdFits}

abbrev pub money_bytes : Account × ℤ → List ℕ
money_bytes e = party_bytes e.0.owner ++ token_bytes e.0.token ++ number_bytes e.1

abbrev pub chosen_bytes : ChoiceId × ℤ → List ℕ
chosen_bytes e = choice_id_bytes e.0 ++ number_bytes e.1

abbrev pub bound_value_bytes : List ℕ × ℤ → List ℕ
bound_value_bytes e = text_bytes e.0 ++ number_bytes e.1

abbrev pub state_bytes : StateMaps → List ℕ
state_bytes s = list_bytes money_bytes (entries s.accounts) ++ list_bytes chosen_bytes (entries s.choices) ++ list_bytes bound_value_bytes (entries s.bound_values) ++ time_bytes s.min_time

-- ---- what fits

abbrev pub MoneyFits : Account × ℤ → Type 0
MoneyFits e = PartyFits e.0.owner × TokenFits e.0.token × NumberFits e.1

abbrev pub ChosenFits : ChoiceId × ℤ → Type 0
ChosenFits e = ChoiceIdFits e.0 × NumberFits e.1

abbrev pub BoundValueFits : List ℕ × ℤ → Type 0
BoundValueFits e = TextFits e.0 × NumberFits e.1

abbrev pub StateFits : StateMaps → Type 0
StateFits s = ListFits MoneyFits (entries s.accounts) × ListFits ChosenFits (entries s.choices) × ListFits BoundValueFits (entries s.bound_values) × TimeFits s.min_time
