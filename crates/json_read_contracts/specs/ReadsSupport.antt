-- No reader needs this file: it serves private functions. What members stand for two by two, the first before the second.
use Rattle.std.specs.Prelude.{ℕ, ℤ, List, codes}
use Rattle.serde_json.specs.Data.{Data}
use Rattle.contract.specs.Names.declared.party.Party.{Party}
use Rattle.contract.specs.Names.declared.payee.Payee.{Payee}
use Rattle.contract.specs.Names.declared.token.Token.{Token}
use Rattle.contract.specs.declared.value.Value.{Value}
use Rattle.contract.specs.declared.tree.Contract.{Contract}
use Rattle.json_read_names.specs.Parts.{Reading, reading_at, both_readings, time}
use Rattle.json_read_names.specs.ReadsNames.{party, payee, token}
use Rattle.json_read_values.specs.ReadsValue.{value}
use Rattle.json_read_contracts.specs.ReadsContract.{contract}

-- what a Pay takes, and from whom to whom
abbrev pub amount_and_token : Data → Reading (Value × Token)
amount_and_token d = both_readings (reading_at value d (codes "pay")) (reading_at token d (codes "token"))

abbrev pub account_and_payee : Data → Reading (Party × Payee)
account_and_payee d = both_readings (reading_at party d (codes "from_account")) (reading_at payee d (codes "to"))

abbrev pub what_is_paid : Data → Reading ((Value × Token) × (Party × Payee))
what_is_paid d = both_readings (amount_and_token d) (account_and_payee d)

-- when a When times out, and how it then goes on
abbrev pub timeout_and_then : Data → Reading (ℤ × Contract)
timeout_and_then d = both_readings (reading_at time d (codes "timeout")) (reading_at contract d (codes "timeout_continuation"))

-- the contracts at two keys
abbrev pub contracts_at : Data → List ℕ → List ℕ → Reading (Contract × Contract)
contracts_at d a b = both_readings (reading_at contract d a) (reading_at contract d b)
