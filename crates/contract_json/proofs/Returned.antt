-- What was written is read as it was: as the value of the code.
use Rattle.std.proofs.Common.{◌≡◌, ℕ, ◌≤◌, true, List, length, Some, Ok, ap, ◌∙◌}
use Rattle.std.proofs.lemmas.Bool.{and_parts}
use Rattle.std.specs.Str.{IsUtf8}
use Rattle.serde_json.specs.Data.{Data}
use Rattle.serde_json.specs.Read.{read}
use Rattle.contract.specs.declared.value.Value.{Value}
use Rattle.contract.specs.declared.value.Observation.{Observation}
use Rattle.contract.specs.declared.tree.Action.{Action}
use Rattle.contract.specs.declared.tree.Case.{Case}
use Rattle.contract.specs.declared.tree.Contract.{Contract}
use Rattle.contract.specs.States.States.{StateMaps}
use Rattle.contract.specs.Collections.Answers.{◌>>=◌}
use Rattle.contract.specs.Tree.{value_tree, observation_tree, action_tree, case_tree, contract_tree}
use Rattle.contract.specs.TreeInverse.{action_of, contract_of}
use Rattle.contract.proofs.TreeLaws.{value_of-value_tree, observation_of-observation_tree, action_of-action_tree, case_tree-parts, contract_of-contract_tree}
use Rattle.json_read_names.specs.Parts.{Reading}
use Rattle.json_read_names.specs.ReadsText.{of_text}
use Rattle.json_read_names.proofs.TextLaws.{json_of-read}
use Rattle.json_read_values.specs.ReadsAction.{action}
use Rattle.json_read_values.specs.ReadsValue.{value, observation}
use Rattle.json_read_contracts.specs.ReadsContract.{contract, case}
use Rattle.json_write_contracts.specs.Symbols.{ValueSymbols, ObservationSymbols, ActionSymbols, CaseSymbols, ContractSymbols}
use Rattle.json_write_contracts.specs.WrittenValues.{value_json, observation_json}
use Rattle.json_write_contracts.specs.WrittenContract.{action_json, action_fits, case_json, case_fits, contract_json, contract_fits}
use Rattle.contract_json.specs.ReadsOutcome.{state_of_outcome}
use Rattle.contract_json.proofs.ReturnsNames.{party-party_json, payee-payee_json, choice_id-choice_id_json, bound-bound_json}
use Rattle.contract_json.proofs.ReturnsValue.{value-back, observation-back}
use Rattle.contract_json.proofs.ReturnsContract.{action-back, case-back, contract-back}
use Rattle.contract_json.proofs.ReturnsInput.{input-back, transaction-back}
use Rattle.contract_json.proofs.ReturnsState.{state-back, state-texts-back}

pub value-returned : (v : Value) → ValueSymbols (value_tree v) → value (value_json (value_tree v)) ≡ Ok v
value-returned v s = value-back (value_tree v) s ∙ ap Ok (value_of-value_tree v)

pub observation-returned : (o : Observation) → ObservationSymbols (observation_tree o) → observation (observation_json (observation_tree o)) ≡ Ok o
observation-returned o s = observation-back (observation_tree o) s ∙ ap Ok (observation_of-observation_tree o)

pub action-returned : (a : Action) → ActionSymbols (action_tree a) → action (action_json (action_tree a)) ≡ Ok a
action-returned a s = action-back (action_tree a) s ∙ ap Ok (action_of-action_tree a)

pub contract-returned : (c : Contract) → contract_fits (contract_tree c) ≡ true → ContractSymbols (contract_tree c) → contract (contract_json (contract_tree c)) ≡ Ok c
contract-returned c fits s = contract-back (contract_tree c) fits s ∙ ap Ok (contract_of-contract_tree c)

pub case-returned : (k : Case) → case_fits (case_tree k) ≡ true → CaseSymbols (case_tree k) → case (case_json (case_tree k)) ≡ Ok k
case-returned k fits s =
    let both = and_parts (action_fits (case_tree k).0) (contract_fits (case_tree k).1) fits in
    case-back (case_tree k).0 (case_tree k).1 both.1 s.0 s.1
    ∙ (λ i. Ok (record { action = action_of (case_tree-parts k i).0; then = contract_of (case_tree-parts k i).1 }))
    ∙ (λ i. Ok (record { action = action_of-action_tree k.action i; then = contract_of-contract_tree k.then i }))

-- the text of a contract
pub contract-text : (text : List ℕ) (c : Contract) → IsUtf8 text → read text ≡ Some (contract_json (contract_tree c)) → contract (contract_json (contract_tree c)) ≡ Ok c
    → length text ≤ 1048576 → of_text contract text ≡ Ok c
contract-text text c utf8 reads back short =
    ap (λ (r : Reading Data). r >>= contract) (json_of-read text (contract_json (contract_tree c)) short utf8 reads) ∙ back

-- the state in the text of an outcome
pub state-text : (text : List ℕ) (d : Data) (s : StateMaps) → IsUtf8 text → read text ≡ Some d → state_of_outcome d ≡ Ok s → length text ≤ 1048576 → of_text state_of_outcome text ≡ Ok s
state-text text d s utf8 reads back short = ap (λ (r : Reading Data). r >>= state_of_outcome) (json_of-read text d short utf8 reads) ∙ back

pub ruleset names_returned = (party-party_json, payee-payee_json, choice_id-choice_id_json, bound-bound_json)

pub ruleset values_returned = (value-returned, observation-returned)

pub ruleset contracts_returned = (action-returned, contract-returned, case-returned)

pub ruleset inputs_returned = (input-back, transaction-back)

pub ruleset state_returned = (state-back)

pub ruleset texts_returned = (state-texts-back)
