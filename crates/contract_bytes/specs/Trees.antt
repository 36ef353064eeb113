-- How actions and contracts are spelled in bytes (Marlowe specification version 3, "Actions and inputs" and
-- "Contracts", has the forms): a tag, then the parts in order.
use Rattle.std.specs.Prelude.{ℕ, ◌+◌, ◌<◌, ◌^◌, List, [], ◌∷◌, ◌++◌}
use Rattle.contract.specs.Tree.{ActionTree, deposit, choice, notify, ContractTree, CaseTrees, close, pay, if_obs, when, let_be, assert, no_cases, case_then}
use Rattle.contract_bytes.specs.Numbers.{length_bytes, time_bytes, text_bytes, list_bytes, TimeFits, TextFits, ListFits}
use Rattle.contract_bytes.specs.Names.{party_bytes, token_bytes, choice_id_bytes, payee_bytes, bound_bytes, PartyFits, TokenFits, ChoiceIdFits, PayeeFits, BoundFits}
use Rattle.contract_bytes.specs.Values.{value_bytes, observation_bytes, ValueFits, ObservationFits}

-- a deposit: account, party, token, value
unfoldable pub action_bytes : ActionTree → List ℕ
action_bytes (deposit account party token v) = 0x00 ∷ party_bytes account ++ party_bytes party ++ token_bytes token ++ value_bytes v
action_bytes (choice id bounds) = 0x01 ∷ choice_id_bytes id ++ list_bytes bound_bytes bounds
action_bytes (notify o) = 0x02 ∷ observation_bytes o

abbrev pub case_count : CaseTrees → ℕ
case_count no_cases = 0
case_count (case_then a c cases) = case_count cases + 1

unfoldable mutual
  pub contract_bytes : ContractTree → List ℕ
  contract_bytes close = 0x00 ∷ []
  contract_bytes (pay account payee token v c) = 0x01 ∷ party_bytes account ++ payee_bytes payee ++ token_bytes token ++ value_bytes v ++ contract_bytes c
  contract_bytes (if_obs o c d) = 0x02 ∷ observation_bytes o ++ contract_bytes c ++ contract_bytes d
  contract_bytes (when cases timeout c) = 0x03 ∷ length_bytes (case_count cases) ++ cases_bytes cases ++ time_bytes timeout ++ contract_bytes c
  contract_bytes (let_be name v c) = 0x04 ∷ text_bytes name ++ value_bytes v ++ contract_bytes c
  contract_bytes (assert o c) = 0x05 ∷ observation_bytes o ++ contract_bytes c

  pub cases_bytes : CaseTrees → List ℕ
  cases_bytes no_cases = []
  cases_bytes (case_then a c cases) = action_bytes a ++ contract_bytes c ++ cases_bytes cases

-- ---- what fits

abbrev pub ActionFits : ActionTree → Type 0
ActionFits (deposit account party token v) = PartyFits account × PartyFits party × TokenFits token × ValueFits v
ActionFits (choice id bounds) = ChoiceIdFits id × ListFits BoundFits bounds
ActionFits (notify o) = ObservationFits o

abbrev mutual
  pub ContractFits : ContractTree → Type 0
  ContractFits close = Unit {0}
  ContractFits (pay account payee token v c) = PartyFits account × PayeeFits payee × TokenFits token × ValueFits v × ContractFits c
  ContractFits (if_obs o c d) = ObservationFits o × ContractFits c × ContractFits d
  ContractFits (when cases timeout c) = (case_count cases < 2 ^ 64) × CasesFit cases × TimeFits timeout × ContractFits c
  ContractFits (let_be name v c) = TextFits name × ValueFits v × ContractFits c
  ContractFits (assert o c) = ObservationFits o × ContractFits c

  pub CasesFit : CaseTrees → Type 0
  CasesFit no_cases = Unit {0}
  CasesFit (case_then a c cases) = ActionFits a × ContractFits c × CasesFit cases
