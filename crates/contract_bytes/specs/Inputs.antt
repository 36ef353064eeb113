-- How inputs are spelled in bytes (Marlowe specification version 3, "Actions and inputs", has the forms): a tag,
-- then the parts in order.
use Rattle.std.specs.Prelude.{ℕ, List, [], ◌∷◌, ◌++◌}
use Rattle.contract.specs.declared.input.Input.{Input}
use Rattle.contract.specs.declared.input.Input.TheVariants as inputs
use Rattle.contract_bytes.specs.Numbers.{number_bytes, NumberFits}
use Rattle.contract_bytes.specs.Names.{party_bytes, token_bytes, choice_id_bytes, PartyFits, TokenFits, ChoiceIdFits}

-- a deposit: account, party, token, amount
abbrev pub input_bytes : Input → List ℕ
input_bytes (inputs.Deposit account party token amount) = 0x00 ∷ party_bytes account ++ party_bytes party ++ token_bytes token ++ number_bytes amount
input_bytes (inputs.Choice id n) = 0x01 ∷ choice_id_bytes id ++ number_bytes n
input_bytes inputs.Notify = 0x02 ∷ []

abbrev pub InputFits : Input → Type 0
InputFits (inputs.Deposit account party token amount) = PartyFits account × PartyFits party × TokenFits token × NumberFits amount
InputFits (inputs.Choice id n) = ChoiceIdFits id × NumberFits n
InputFits inputs.Notify = Unit {0}
