-- The form that a JSON value has as one of a sort: its keys, with what the values behind them are read as; or the fault of the form
-- itself.
use Rattle.std.specs.Prelude.{ℤ, pos, int_lt, Bool, ◌&&◌, List, [], Ok, Err, codes, if◌then◌else◌}
use Rattle.serde_json.specs.Data.{Data}
use Rattle.contract.specs.Collections.Answers.{◌>>=◌}
use Rattle.json_read_names.specs.Forms.{has, has_two, contract_form, case_form, action_form, value_form, observation_form, input_form}
use Rattle.json_read_names.specs.Parts.{Reading, of_one, text, bytes, whole_number, time}
use Rattle.json_read_names.specs.declared.fault.JsonFault.TheVariants as faults
use Rattle.json_read_names.specs.declared.forms.ContractForm.{ContractForm}
use Rattle.json_read_names.specs.declared.forms.ContractForm.TheVariants as contracts
use Rattle.json_read_names.specs.declared.forms.CaseForm.{CaseForm}
use Rattle.json_read_names.specs.declared.forms.CaseForm.TheVariants as cases
use Rattle.json_read_names.specs.declared.forms.ActionForm.{ActionForm}
use Rattle.json_read_names.specs.declared.forms.ActionForm.TheVariants as actions
use Rattle.json_read_names.specs.declared.forms.ValueForm.{ValueForm}
use Rattle.json_read_names.specs.declared.forms.ValueForm.TheVariants as values
use Rattle.json_read_names.specs.declared.forms.ObservationForm.{ObservationForm}
use Rattle.json_read_names.specs.declared.forms.ObservationForm.TheVariants as observations
use Rattle.json_read_names.specs.declared.forms.InputForm.{InputForm}
use Rattle.json_read_names.specs.declared.forms.InputForm.TheVariants as inputs
use Rattle.json_read_inputs.specs.ReadsNumber.{number_or_text}
use Rattle.json_forms.specs.declared.sort.Numbers.{Numbers}
use Rattle.json_forms.specs.declared.sort.Numbers.TheVariants as numbers
use Rattle.json_forms.specs.declared.sort.Sort.{Sort}
use Rattle.json_forms.specs.declared.sort.Sort.TheVariants as sorts
use Rattle.json_forms.specs.declared.form.Form.{Form}
use Rattle.json_forms.specs.declared.form.Form.TheVariants as forms
use Rattle.json_forms.specs.Forms.{Field, fields_of}
use Rattle.json_stops.specs.declared.fields.Shape.{Shape}
use Rattle.json_stops.specs.declared.fields.Shape.TheVariants.{Itself, ListOf, PairOf}

-- ---- numbers of a state

abbrev pub number_sort : Numbers → Sort
number_sort numbers.Whole = sorts.Whole
number_sort numbers.OrTexts = sorts.NumberOrText

abbrev pub number : Numbers → Data → Reading ℤ
number numbers.Whole = whole_number
number numbers.OrTexts = number_or_text

abbrev above_0 : ℤ → Reading ℤ
above_0 n = if int_lt (pos 0) n then Ok n else Err faults.BadState

-- what an account holds
abbrev pub amount : Numbers → Data → Reading ℤ
amount numbers d = number numbers d >>= above_0

-- ---- lists, pairs and forms

-- a sort of lists has a sort of items, and one of pairs two
abbrev pub shape_of : Sort → Shape
shape_of sorts.Cases = ListOf sorts.Case
shape_of sorts.Bounds = ListOf sorts.Bound
shape_of sorts.Inputs = ListOf sorts.Input
shape_of (sorts.Accounts numbers) = ListOf (sorts.AccountEntry numbers)
shape_of (sorts.AccountEntry numbers) = PairOf sorts.Account (sorts.Amount numbers)
shape_of sorts.Account = PairOf sorts.Party sorts.Token
shape_of (sorts.Choices numbers) = ListOf (sorts.ChoiceEntry numbers)
shape_of (sorts.ChoiceEntry numbers) = PairOf sorts.ChoiceId (number_sort numbers)
shape_of (sorts.BoundValues numbers) = ListOf (sorts.BoundEntry numbers)
shape_of (sorts.BoundEntry numbers) = PairOf sorts.Text (number_sort numbers)
shape_of sorts.Amounts = ListOf sorts.AmountEntry
shape_of sorts.AmountEntry = PairOf sorts.Token (sorts.Amount numbers.Whole)
shape_of other = Itself

-- a text or a number has no keys
abbrev pub no_keys : {X : Type 0} → Reading X → Reading (List Field)
no_keys reading = of_one (λ x. []) reading

abbrev pub contract_fields : ContractForm → Reading (List Field)
contract_fields contracts.Close = Ok []
contract_fields contracts.Pay = Ok (fields_of forms.Pay)
contract_fields contracts.If = Ok (fields_of forms.If)
contract_fields contracts.When = Ok (fields_of forms.When)
contract_fields contracts.Let = Ok (fields_of forms.Let)
contract_fields contracts.Assert = Ok (fields_of forms.Assert)
contract_fields contracts.Nothing = Err faults.NoForm

abbrev pub case_fields : CaseForm → Reading (List Field)
case_fields cases.Plain = Ok (fields_of forms.Case)
case_fields cases.Merkleized = Err faults.Merkleized
case_fields cases.Nothing = Err faults.NoForm

abbrev pub action_fields : ActionForm → Reading (List Field)
action_fields actions.Deposit = Ok (fields_of forms.Deposit)
action_fields actions.Choice = Ok (fields_of forms.Choice)
action_fields actions.Notify = Ok (fields_of forms.Notify)
action_fields actions.Nothing = Err faults.NoForm

abbrev pub value_fields : ValueForm → Data → Reading (List Field)
value_fields values.Constant d = no_keys (whole_number d)
value_fields values.TimeIntervalStart d = Ok []
value_fields values.TimeIntervalEnd d = Ok []
value_fields values.AvailableMoney d = Ok (fields_of forms.AvailableMoney)
value_fields values.NegValue d = Ok (fields_of forms.NegValue)
value_fields values.AddValue d = Ok (fields_of forms.AddValue)
value_fields values.SubValue d = Ok (fields_of forms.SubValue)
value_fields values.MulValue d = Ok (fields_of forms.MulValue)
value_fields values.DivValue d = Ok (fields_of forms.DivValue)
value_fields values.ChoiceValue d = Ok (fields_of forms.ChoiceValue)
value_fields values.UseValue d = Ok (fields_of forms.UseValue)
value_fields values.Cond d = Ok (fields_of forms.Cond)
value_fields values.Nothing d = Err faults.NoForm

abbrev pub observation_fields : ObservationForm → Reading (List Field)
observation_fields observations.TrueObs = Ok []
observation_fields observations.FalseObs = Ok []
observation_fields observations.AndObs = Ok (fields_of forms.AndObs)
observation_fields observations.OrObs = Ok (fields_of forms.OrObs)
observation_fields observations.NotObs = Ok (fields_of forms.NotObs)
observation_fields observations.ChoseSomething = Ok (fields_of forms.ChoseSomething)
observation_fields observations.ValueGE = Ok (fields_of forms.ValueGE)
observation_fields observations.ValueGT = Ok (fields_of forms.ValueGT)
observation_fields observations.ValueLT = Ok (fields_of forms.ValueLT)
observation_fields observations.ValueLE = Ok (fields_of forms.ValueLE)
observation_fields observations.ValueEQ = Ok (fields_of forms.ValueEQ)
observation_fields observations.Nothing = Err faults.NoForm

abbrev pub input_fields : InputForm → Reading (List Field)
input_fields inputs.Notify = Ok []
input_fields inputs.Deposit = Ok (fields_of forms.DepositInput)
input_fields inputs.Choice = Ok (fields_of forms.ChoiceInput)
input_fields inputs.Nothing = Err faults.NoForm

-- the only form of a sort
unfoldable pub only_form : Bool → Form → Reading (List Field)
only_form has_keys form = if has_keys then Ok (fields_of form) else Err faults.NoForm

-- the first form, where its key is there, or else the second
unfoldable pub either_form : Bool → Form → Form → Reading (List Field)
either_form has_key first second = if has_key then Ok (fields_of first) else Ok (fields_of second)

-- the keys that are read of a value of a sort, in order
abbrev pub fields_read : Sort → Data → Reading (List Field)
fields_read sorts.Contract d = contract_fields (contract_form d)
fields_read sorts.Case d = case_fields (case_form d)
fields_read sorts.Action d = action_fields (action_form d)
fields_read sorts.Value d = value_fields (value_form d) d
fields_read sorts.Observation d = observation_fields (observation_form d)
fields_read sorts.Bound d = only_form (has_two (codes "from") (codes "to") d) forms.Bound
fields_read sorts.ChoiceId d = only_form (has_two (codes "choice_name") (codes "choice_owner") d) forms.ChoiceId
fields_read sorts.Token d = only_form (has_two (codes "currency_symbol") (codes "token_name") d) forms.Token
fields_read sorts.Party d = either_form (has (codes "address") d) forms.Address forms.Role
fields_read sorts.Payee d = either_form (has (codes "account") d) forms.ToAccount forms.ToParty
fields_read sorts.Text d = no_keys (text d)
fields_read sorts.Hex d = no_keys (bytes d)
fields_read sorts.Whole d = no_keys (whole_number d)
fields_read sorts.Time d = no_keys (time d)
fields_read sorts.Transaction d = only_form (has_two (codes "tx_interval") (codes "tx_inputs") d) forms.Transaction
fields_read sorts.Interval d = only_form (has_two (codes "from") (codes "to") d) forms.Interval
fields_read sorts.Input d = input_fields (input_form d)
fields_read (sorts.State numbers) d = only_form (has_two (codes "accounts") (codes "choices") d && has_two (codes "boundValues") (codes "minTime") d) (forms.State numbers)
fields_read sorts.NumberOrText d = no_keys (number_or_text d)
fields_read (sorts.Amount numbers) d = no_keys (amount numbers d)
fields_read (sorts.Repeated first) d = Err faults.BadState
fields_read (sorts.OfScenario part) d = Err faults.NoForm
fields_read other d = Ok []
