-- No reader needs this file: it serves private functions. What members stand for two by two, the first before the second.
use Rattle.std.specs.Prelude.{ℕ, List, codes}
use Rattle.serde_json.specs.Data.{Data}
use Rattle.contract.specs.Names.declared.party.Party.{Party}
use Rattle.contract.specs.Names.declared.token.Token.{Token}
use Rattle.contract.specs.declared.value.Value.{Value}
use Rattle.contract.specs.declared.value.Observation.{Observation}
use Rattle.json_read_names.specs.Parts.{Reading, reading_at, both_readings}
use Rattle.json_read_names.specs.ReadsNames.{party, token}
use Rattle.json_read_values.specs.ReadsValue.{value, observation}

-- the values, and the observations, at two keys
abbrev pub values_at : Data → List ℕ → List ℕ → Reading (Value × Value)
values_at d a b = both_readings (reading_at value d a) (reading_at value d b)

abbrev pub observations_at : Data → List ℕ → List ℕ → Reading (Observation × Observation)
observations_at d a b = both_readings (reading_at observation d a) (reading_at observation d b)

-- who deposits, and how much
abbrev pub party_and_value : Data → Reading (Party × Value)
party_and_value d = both_readings (reading_at party d (codes "party")) (reading_at value d (codes "deposits"))

-- of what token, and into whose account
abbrev pub token_and_account : Data → Reading (Token × Party)
token_and_account d = both_readings (reading_at token d (codes "of_token")) (reading_at party d (codes "into_account"))
