-- The form by which an object is read is the one that the readers take.
use Rattle.std.specs.Prelude.{◌≡◌, Option, Some, None}
use Rattle.json.specs.Json.{Members, object}
use Rattle.serde_json.specs.Data.{Data}
use Rattle.serde_json.specs.Read.{of_json}
use Rattle.json_read_names.specs.Forms.{contract_form, case_form, action_form, value_form, observation_form, input_form}
use Rattle.json_read_names.specs.declared.forms.ContractForm.{ContractForm}
use Rattle.json_read_names.specs.declared.forms.ContractForm.TheVariants as contracts
use Rattle.json_read_names.specs.declared.forms.CaseForm.{CaseForm}
use Rattle.json_read_names.specs.declared.forms.CaseForm.TheVariants as cases
use Rattle.json_read_names.specs.declared.forms.ActionForm.{ActionForm}
use Rattle.json_read_names.specs.declared.forms.ActionForm.TheVariants as actions
use Rattle.json_read_names.specs.declared.forms.ValueForm.{ValueForm}
use Rattle.json_read_names.specs.declared.forms.ValueForm.TheVariants as values
use Rattle.json_read_names.specs.declared.forms.ObservationForm.{ObservationForm}
use Rattle.json_read_names.specs.declared.forms.ObservationForm.TheVariants as observations
use Rattle.json_read_names.specs.declared.forms.InputForm.{InputForm}
use Rattle.json_read_names.specs.declared.forms.InputForm.TheVariants as inputs
use Rattle.json_forms.specs.declared.form.Form.{Form}
use Rattle.json_forms.specs.declared.form.Form.TheVariants as forms
use Rattle.json_forms.specs.declared.sort.Sort.TheVariants as sorts
use Rattle.unread_keys.specs.Sorts.{form_of}
use Rattle.unread_keys.specs.Unread.{keys_of}

-- ---- the tables' names of what readers take

abbrev pub contract_named : ContractForm → Option Form
contract_named contracts.Close = None
contract_named contracts.Pay = Some forms.Pay
contract_named contracts.If = Some forms.If
contract_named contracts.When = Some forms.When
contract_named contracts.Let = Some forms.Let
contract_named contracts.Assert = Some forms.Assert
contract_named contracts.Nothing = None

-- a merkleized case isn't read
abbrev pub case_named : CaseForm → Option Form
case_named cases.Plain = Some forms.Case
case_named cases.Merkleized = None
case_named cases.Nothing = None

abbrev pub action_named : ActionForm → Option Form
action_named actions.Deposit = Some forms.Deposit
action_named actions.Choice = Some forms.Choice
action_named actions.Notify = Some forms.Notify
action_named actions.Nothing = None

abbrev pub value_named : ValueForm → Option Form
value_named values.Constant = None
value_named values.TimeIntervalStart = None
value_named values.TimeIntervalEnd = None
value_named values.AvailableMoney = Some forms.AvailableMoney
value_named values.NegValue = Some forms.NegValue
value_named values.AddValue = Some forms.AddValue
value_named values.SubValue = Some forms.SubValue
value_named values.MulValue = Some forms.MulValue
value_named values.DivValue = Some forms.DivValue
value_named values.ChoiceValue = Some forms.ChoiceValue
value_named values.UseValue = Some forms.UseValue
value_named values.Cond = Some forms.Cond
value_named values.Nothing = None

abbrev pub observation_named : ObservationForm → Option Form
observation_named observations.TrueObs = None
observation_named observations.FalseObs = None
observation_named observations.AndObs = Some forms.AndObs
observation_named observations.OrObs = Some forms.OrObs
observation_named observations.NotObs = Some forms.NotObs
observation_named observations.ChoseSomething = Some forms.ChoseSomething
observation_named observations.ValueGE = Some forms.ValueGE
observation_named observations.ValueGT = Some forms.ValueGT
observation_named observations.ValueLT = Some forms.ValueLT
observation_named observations.ValueLE = Some forms.ValueLE
observation_named observations.ValueEQ = Some forms.ValueEQ
observation_named observations.Nothing = None

abbrev pub input_named : InputForm → Option Form
input_named inputs.Notify = None
input_named inputs.Deposit = Some forms.DepositInput
input_named inputs.Choice = Some forms.ChoiceInput
input_named inputs.Nothing = None

-- ---- of each sort of several forms

-- of an object whose numbers are read
abbrev pub ReadersTakeTheseForms : Type 0
ReadersTakeTheseForms =
    (ms : Members) (d : Data) → of_json (object ms) ≡ Some d →
    (form_of sorts.Contract (keys_of ms) ≡ contract_named (contract_form d))
    × (form_of sorts.Case (keys_of ms) ≡ case_named (case_form d))
    × (form_of sorts.Action (keys_of ms) ≡ action_named (action_form d))
    × (form_of sorts.Value (keys_of ms) ≡ value_named (value_form d))
    × (form_of sorts.Observation (keys_of ms) ≡ observation_named (observation_form d))
    × (form_of sorts.Input (keys_of ms) ≡ input_named (input_form d))
