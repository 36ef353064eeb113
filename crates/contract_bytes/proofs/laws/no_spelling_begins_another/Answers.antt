use Rattle.contract_bytes.specs.Names.{party_bytes, token_bytes, choice_id_bytes, payee_bytes, PartyFits, TokenFits, ChoiceIdFits, PayeeFits}
use Rattle.contract_bytes.specs.Values.{value_bytes, observation_bytes, ValueFits, ObservationFits}
use Rattle.contract_bytes.specs.Trees.{action_bytes, contract_bytes, ActionFits, ContractFits}
use Rattle.contract_bytes.specs.Inputs.{input_bytes, InputFits}
use Rattle.contract_bytes.specs.States.{state_bytes, StateFits}
use Rattle.contract_bytes.proofs.Apart.{begins_no_other}
use Rattle.contract_bytes.proofs.ApartNames.{parties_read_one_way, tokens_read_one_way, choice_ids_read_one_way, payees_read_one_way, inputs_read_one_way, states_read_one_way}
use Rattle.contract_bytes.proofs.ApartTrees.{values_read_one_way, observations_read_one_way, actions_read_one_way, contracts_read_one_way}
use Rattle.contract_bytes.proofs.laws.no_spelling_begins_another.Goals as goal

pub returns : goal.returns
returns c = record {
  parties = begins_no_other PartyFits party_bytes parties_read_one_way;
  tokens = begins_no_other TokenFits token_bytes tokens_read_one_way;
  choice_ids = begins_no_other ChoiceIdFits choice_id_bytes choice_ids_read_one_way;
  payees = begins_no_other PayeeFits payee_bytes payees_read_one_way;
  values = begins_no_other ValueFits value_bytes values_read_one_way;
  observations = begins_no_other ObservationFits observation_bytes observations_read_one_way;
  actions = begins_no_other ActionFits action_bytes actions_read_one_way;
  contracts = begins_no_other ContractFits contract_bytes contracts_read_one_way;
  inputs = begins_no_other InputFits input_bytes inputs_read_one_way;
  states = begins_no_other StateFits state_bytes states_read_one_way;
}
