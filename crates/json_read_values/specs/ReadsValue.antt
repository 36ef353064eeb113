-- What a JSON value stands for as a value and as an observation (Marlowe specification version 3, "Values
-- and observations").
use Rattle.std.specs.Prelude.{ℕ, List, Ok, Err, codes}
use Rattle.std.specs.Ordering.{nat_cmp, match_ordering}
use Rattle.std.specs.Cmp.Lexicographic.{slice_cmp}
use Rattle.serde_json.specs.Data.{Data, object, Members, no_members, member}
use Rattle.contract.specs.declared.value.Value.{Value}
use Rattle.contract.specs.declared.value.Value as values
use Rattle.contract.specs.declared.value.Observation.{Observation}
use Rattle.contract.specs.declared.value.Observation as observations
use Rattle.json_read_names.specs.Forms.{value_form, observation_form}
use Rattle.contract.specs.Collections.Answers.{◌>>=◌}
use Rattle.json_read_names.specs.Parts.{Reading, ByKey, reading_at, both_readings, of_one, of_two, nowhere, text, whole_number}
use Rattle.json_read_names.specs.ReadsNames.{party, token, choice_id}
use Rattle.json_read_names.specs.declared.fault.JsonFault.TheVariants.{NoForm}
use Rattle.json_read_names.specs.declared.forms.ValueForm.{ValueForm}
use Rattle.json_read_names.specs.declared.forms.ValueForm.TheVariants as value_forms
use Rattle.json_read_names.specs.declared.forms.ObservationForm.{ObservationForm}
use Rattle.json_read_names.specs.declared.forms.ObservationForm.TheVariants as observation_forms

-- A value of each form, from what the members stand for.
unfoldable pub value_by : ValueForm → Data → ByKey Value → ByKey Observation → Reading Value
value_by value_forms.Constant d value observation = of_one values.Constant (whole_number d)
value_by value_forms.TimeIntervalStart d value observation = Ok values.TimeIntervalStart
value_by value_forms.TimeIntervalEnd d value observation = Ok values.TimeIntervalEnd
value_by value_forms.AvailableMoney d value observation = do
  token ← reading_at token d (codes "amount_of_token")
  account ← reading_at party d (codes "in_account")
  Ok (values.AvailableMoney account token)
value_by value_forms.NegValue d value observation = of_one values.NegValue (value (codes "negate"))
value_by value_forms.AddValue d value observation = of_two values.AddValue (value (codes "add")) (value (codes "and"))
value_by value_forms.SubValue d value observation = of_two values.SubValue (value (codes "value")) (value (codes "minus"))
value_by value_forms.MulValue d value observation = of_two values.MulValue (value (codes "multiply")) (value (codes "times"))
value_by value_forms.DivValue d value observation = of_two values.DivValue (value (codes "divide")) (value (codes "by"))
value_by value_forms.ChoiceValue d value observation = of_one values.ChoiceValue (reading_at choice_id d (codes "value_of_choice"))
value_by value_forms.UseValue d value observation = of_one values.UseValue (reading_at text d (codes "use_value"))
value_by value_forms.Cond d value observation = do
  holds ← observation (codes "if")
  branches ← both_readings (value (codes "then")) (value (codes "else"))
  Ok (values.Cond holds branches.0 branches.1)
value_by value_forms.Nothing d value observation = Err NoForm

-- An observation of each form, from what the members stand for.
unfoldable pub observation_by : ObservationForm → Data → ByKey Value → ByKey Observation → Reading Observation
observation_by observation_forms.TrueObs d value observation = Ok observations.TrueObs
observation_by observation_forms.FalseObs d value observation = Ok observations.FalseObs
observation_by observation_forms.AndObs d value observation = of_two observations.AndObs (observation (codes "both")) (observation (codes "and"))
observation_by observation_forms.OrObs d value observation = of_two observations.OrObs (observation (codes "either")) (observation (codes "or"))
observation_by observation_forms.NotObs d value observation = of_one observations.NotObs (observation (codes "not"))
observation_by observation_forms.ChoseSomething d value observation = of_one observations.ChoseSomething (reading_at choice_id d (codes "chose_something_for"))
observation_by observation_forms.ValueGE d value observation = of_two observations.ValueGE (value (codes "value")) (value (codes "ge_than"))
observation_by observation_forms.ValueGT d value observation = of_two observations.ValueGT (value (codes "value")) (value (codes "gt"))
observation_by observation_forms.ValueLT d value observation = of_two observations.ValueLT (value (codes "value")) (value (codes "lt"))
observation_by observation_forms.ValueLE d value observation = of_two observations.ValueLE (value (codes "value")) (value (codes "le_than"))
observation_by observation_forms.ValueEQ d value observation = of_two observations.ValueEQ (value (codes "value")) (value (codes "equal_to"))
observation_by observation_forms.Nothing d value observation = Err NoForm

-- The reading of a value and of an observation: that of its form, where what the members stand for is `reading_at value d`
-- and `reading_at observation d` (the law `values_are_read_by_form`). The block says it as a recursion down the value, in which `_in`
-- goes down the members to the key; a reader may skip it.
unfoldable mutual
  pub value : Data → Reading Value
  value (object ms) = value_by (value_form (object ms)) (object ms) (λ key. value_in key ms) (λ key. observation_in key ms)
  value d = value_by (value_form d) d nowhere nowhere

  pub value_in : List ℕ → Members → Reading Value
  value_in key no_members = Err NoForm
  value_in key (member k d ms) = match_ordering (slice_cmp nat_cmp key k) (value_in key ms) (value d) (value_in key ms)

  pub observation : Data → Reading Observation
  observation (object ms) = observation_by (observation_form (object ms)) (object ms) (λ key. value_in key ms) (λ key. observation_in key ms)
  observation d = observation_by (observation_form d) d nowhere nowhere

  pub observation_in : List ℕ → Members → Reading Observation
  observation_in key no_members = Err NoForm
  observation_in key (member k d ms) = match_ordering (slice_cmp nat_cmp key k) (observation_in key ms) (observation d) (observation_in key ms)

-- by their forms
abbrev pub value_as : ValueForm → Data → Reading Value
value_as form d = value_by form d (reading_at value d) (reading_at observation d)

abbrev pub observation_as : ObservationForm → Data → Reading Observation
observation_as form d = observation_by form d (reading_at value d) (reading_at observation d)
