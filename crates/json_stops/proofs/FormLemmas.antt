-- The fault of each form, by those of the values behind its keys.
use Rattle.std.proofs.Common.{◌≡◌, Ok, refl}
use Rattle.std.specs.Prelude.{codes}
use Rattle.serde_json.specs.Data.{Data}
use Rattle.serde_json.specs.Find.{get}
use Rattle.contract.specs.declared.value.Value as made_values
use Rattle.contract.specs.declared.value.Observation as made_observations
use Rattle.contract.specs.declared.tree.Contract as made_contracts
use Rattle.json_read_names.specs.Parts.{reading_at, text, whole_number, time, list}
use Rattle.json_read_names.specs.ReadsNames.{party, token, choice_id, payee, bound}
use Rattle.json_read_names.specs.declared.forms.ContractForm.{ContractForm}
use Rattle.json_read_names.specs.declared.forms.ContractForm.TheVariants as contracts
use Rattle.json_read_names.specs.declared.forms.CaseForm.{CaseForm}
use Rattle.json_read_names.specs.declared.forms.CaseForm.TheVariants as cases
use Rattle.json_read_names.specs.declared.forms.ActionForm.{ActionForm}
use Rattle.json_read_names.specs.declared.forms.ActionForm.TheVariants as actions
use Rattle.json_read_names.specs.declared.forms.ValueForm.{ValueForm}
use Rattle.json_read_names.specs.declared.forms.ValueForm.TheVariants as values
use Rattle.json_read_names.specs.declared.forms.ObservationForm.{ObservationForm}
use Rattle.json_read_names.specs.declared.forms.ObservationForm.TheVariants as observations
use Rattle.json_read_names.specs.declared.forms.InputForm.{InputForm}
use Rattle.json_read_names.specs.declared.forms.InputForm.TheVariants as inputs
use Rattle.json_read_values.specs.ReadsValue.{value, value_by, observation, observation_by}
use Rattle.json_read_values.specs.ReadsAction.{action, action_by}
use Rattle.json_read_contracts.specs.ReadsContract.{contract, contract_by, case, case_by}
use Rattle.json_read_inputs.specs.ReadsInput.{input_by}
use Rattle.json_forms.specs.declared.sort.Sort.TheVariants as sorts
use Rattle.json_stops.specs.FormsRead.{contract_fields, case_fields, action_fields, value_fields, observation_fields, input_fields}
use Rattle.json_stops.specs.Stops.{fault_of}
use Rattle.json_stops.specs.StopsSupport.{fields_fault}
use Rattle.json_stops.proofs.ChainLemmas.{field_then, two_then, no_keys_fault}

module _ (d : Data) where
  -- ---- values and observations
  pub value_fault : (form : ValueForm) → fault_of (value_by form d (reading_at value d) (reading_at observation d)) ≡ fields_fault d (value_fields form d)
  unfolding value_by
  value_fault values.Constant = no_keys_fault (whole_number d) _ d
  value_fault values.TimeIntervalStart = refl
  value_fault values.TimeIntervalEnd = refl
  value_fault values.AvailableMoney = field_then sorts.Token (get (codes "amount_of_token") d) token _ _ (λ e. refl) (λ t. field_then sorts.Party (get (codes "in_account") d) party _ _ (λ e. refl) (λ a. refl))
  value_fault values.NegValue = field_then sorts.Value (get (codes "negate") d) value _ _ (λ e. refl) (λ a. refl)
  value_fault values.AddValue = two_then sorts.Value sorts.Value (get (codes "add") d) (get (codes "and") d) value value (λ a b. Ok (made_values.AddValue a b)) _ (λ e. refl) (λ e. refl) (λ a b. refl)
  value_fault values.SubValue = two_then sorts.Value sorts.Value (get (codes "value") d) (get (codes "minus") d) value value (λ a b. Ok (made_values.SubValue a b)) _ (λ e. refl) (λ e. refl) (λ a b. refl)
  value_fault values.MulValue = two_then sorts.Value sorts.Value (get (codes "multiply") d) (get (codes "times") d) value value (λ a b. Ok (made_values.MulValue a b)) _ (λ e. refl) (λ e. refl) (λ a b. refl)
  value_fault values.DivValue = two_then sorts.Value sorts.Value (get (codes "divide") d) (get (codes "by") d) value value (λ a b. Ok (made_values.DivValue a b)) _ (λ e. refl) (λ e. refl) (λ a b. refl)
  value_fault values.ChoiceValue = field_then sorts.ChoiceId (get (codes "value_of_choice") d) choice_id _ _ (λ e. refl) (λ a. refl)
  value_fault values.UseValue = field_then sorts.Text (get (codes "use_value") d) text _ _ (λ e. refl) (λ a. refl)
  value_fault values.Cond =
      field_then sorts.Observation (get (codes "if") d) observation _ _ (λ e. refl) (λ o. two_then sorts.Value sorts.Value (get (codes "then") d) (get (codes "else") d) value value (λ a b. Ok (made_values.Cond o a b)) _ (λ e. refl) (λ e. refl) (λ a b. refl))
  value_fault values.Nothing = refl

  pub observation_fault : (form : ObservationForm) → fault_of (observation_by form d (reading_at value d) (reading_at observation d)) ≡ fields_fault d (observation_fields form)
  unfolding observation_by
  observation_fault observations.TrueObs = refl
  observation_fault observations.FalseObs = refl
  observation_fault observations.AndObs = two_then sorts.Observation sorts.Observation (get (codes "both") d) (get (codes "and") d) observation observation (λ a b. Ok (made_observations.AndObs a b)) _ (λ e. refl) (λ e. refl) (λ a b. refl)
  observation_fault observations.OrObs = two_then sorts.Observation sorts.Observation (get (codes "either") d) (get (codes "or") d) observation observation (λ a b. Ok (made_observations.OrObs a b)) _ (λ e. refl) (λ e. refl) (λ a b. refl)
  observation_fault observations.NotObs = field_then sorts.Observation (get (codes "not") d) observation _ _ (λ e. refl) (λ a. refl)
  observation_fault observations.ChoseSomething = field_then sorts.ChoiceId (get (codes "chose_something_for") d) choice_id _ _ (λ e. refl) (λ a. refl)
  observation_fault observations.ValueGE = two_then sorts.Value sorts.Value (get (codes "value") d) (get (codes "ge_than") d) value value (λ a b. Ok (made_observations.ValueGE a b)) _ (λ e. refl) (λ e. refl) (λ a b. refl)
  observation_fault observations.ValueGT = two_then sorts.Value sorts.Value (get (codes "value") d) (get (codes "gt") d) value value (λ a b. Ok (made_observations.ValueGT a b)) _ (λ e. refl) (λ e. refl) (λ a b. refl)
  observation_fault observations.ValueLT = two_then sorts.Value sorts.Value (get (codes "value") d) (get (codes "lt") d) value value (λ a b. Ok (made_observations.ValueLT a b)) _ (λ e. refl) (λ e. refl) (λ a b. refl)
  observation_fault observations.ValueLE = two_then sorts.Value sorts.Value (get (codes "value") d) (get (codes "le_than") d) value value (λ a b. Ok (made_observations.ValueLE a b)) _ (λ e. refl) (λ e. refl) (λ a b. refl)
  observation_fault observations.ValueEQ = two_then sorts.Value sorts.Value (get (codes "value") d) (get (codes "equal_to") d) value value (λ a b. Ok (made_observations.ValueEQ a b)) _ (λ e. refl) (λ e. refl) (λ a b. refl)
  observation_fault observations.Nothing = refl

  pub action_fault : (form : ActionForm) → fault_of (action_by form d) ≡ fields_fault d (action_fields form)
  unfolding action_by
  action_fault actions.Deposit =
      field_then sorts.Party (get (codes "party") d) party _ _ (λ e. refl) (λ p.
      field_then sorts.Value (get (codes "deposits") d) value _ _ (λ e. refl) (λ v.
      field_then sorts.Token (get (codes "of_token") d) token _ _ (λ e. refl) (λ t. field_then sorts.Party (get (codes "into_account") d) party _ _ (λ e. refl) (λ a. refl))))
  action_fault actions.Choice =
      field_then sorts.ChoiceId (get (codes "for_choice") d) choice_id _ _ (λ e. refl) (λ id. field_then sorts.Bounds (get (codes "choose_between") d) (list bound) _ _ (λ e. refl) (λ bs. refl))
  action_fault actions.Notify = field_then sorts.Observation (get (codes "notify_if") d) observation _ _ (λ e. refl) (λ o. refl)
  action_fault actions.Nothing = refl

  -- ---- contracts
  pub contract_fault : (form : ContractForm) → fault_of (contract_by form d (reading_at contract d) (reading_at (list case) d)) ≡ fields_fault d (contract_fields form)
  unfolding contract_by
  contract_fault contracts.Close = refl
  contract_fault contracts.Pay =
      field_then sorts.Value (get (codes "pay") d) value _ _ (λ e. refl) (λ v.
      field_then sorts.Token (get (codes "token") d) token _ _ (λ e. refl) (λ t.
      field_then sorts.Party (get (codes "from_account") d) party _ _ (λ e. refl) (λ p.
      field_then sorts.Payee (get (codes "to") d) payee _ _ (λ e. refl) (λ q. field_then sorts.Contract (get (codes "then") d) contract _ _ (λ e. refl) (λ c. refl)))))
  contract_fault contracts.If =
      field_then sorts.Observation (get (codes "if") d) observation _ _ (λ e. refl) (λ o.
      two_then sorts.Contract sorts.Contract (get (codes "then") d) (get (codes "else") d) contract contract (λ a b. Ok (made_contracts.If o a b)) _ (λ e. refl) (λ e. refl) (λ a b. refl))
  contract_fault contracts.When =
      field_then sorts.Cases (get (codes "when") d) (list case) _ _ (λ e. refl) (λ ks.
      field_then sorts.Time (get (codes "timeout") d) time _ _ (λ e. refl) (λ t. field_then sorts.Contract (get (codes "timeout_continuation") d) contract _ _ (λ e. refl) (λ c. refl)))
  contract_fault contracts.Let =
      field_then sorts.Text (get (codes "let") d) text _ _ (λ e. refl) (λ x.
      field_then sorts.Value (get (codes "be") d) value _ _ (λ e. refl) (λ v. field_then sorts.Contract (get (codes "then") d) contract _ _ (λ e. refl) (λ c. refl)))
  contract_fault contracts.Assert =
      field_then sorts.Observation (get (codes "assert") d) observation _ _ (λ e. refl) (λ o. field_then sorts.Contract (get (codes "then") d) contract _ _ (λ e. refl) (λ c. refl))
  contract_fault contracts.Nothing = refl

  pub case_fault : (form : CaseForm) → fault_of (case_by form d (reading_at contract d)) ≡ fields_fault d (case_fields form)
  unfolding case_by
  case_fault cases.Plain = field_then sorts.Action (get (codes "case") d) action _ _ (λ e. refl) (λ a. field_then sorts.Contract (get (codes "then") d) contract _ _ (λ e. refl) (λ c. refl))
  case_fault cases.Merkleized = refl
  case_fault cases.Nothing = refl

  -- ---- inputs
  pub input_fault : (form : InputForm) → fault_of (input_by form d) ≡ fields_fault d (input_fields form)
  unfolding input_by
  input_fault inputs.Notify = refl
  input_fault inputs.Deposit =
      field_then sorts.Party (get (codes "input_from_party") d) party _ _ (λ e. refl) (λ p.
      field_then sorts.Whole (get (codes "that_deposits") d) whole_number _ _ (λ e. refl) (λ v.
      field_then sorts.Token (get (codes "of_token") d) token _ _ (λ e. refl) (λ t. field_then sorts.Party (get (codes "into_account") d) party _ _ (λ e. refl) (λ a. refl))))
  input_fault inputs.Choice =
      field_then sorts.ChoiceId (get (codes "for_choice_id") d) choice_id _ _ (λ e. refl) (λ id. field_then sorts.Whole (get (codes "input_that_chooses_num") d) whole_number _ _ (λ e. refl) (λ n. refl))
  input_fault inputs.Nothing = refl
