-- Which form a JSON value has: for each sort the first form whose keys are all there.
use Rattle.std.specs.Prelude.{ℕ, List, Bool, true, false, ◌&&◌, Option, Some, None, codes, is_some, if◌then◌else◌}
use Rattle.names.specs.Equal.{same_text}
use Rattle.serde_json.specs.Data.{Data}
use Rattle.serde_json.specs.Find.{get, as_bool, as_number, as_str}
use Rattle.json_read_names.specs.declared.forms.ValueForm.{ValueForm}
use Rattle.json_read_names.specs.declared.forms.ValueForm.TheVariants as values
use Rattle.json_read_names.specs.declared.forms.ObservationForm.{ObservationForm}
use Rattle.json_read_names.specs.declared.forms.ObservationForm.TheVariants as observations
use Rattle.json_read_names.specs.declared.forms.ContractForm.{ContractForm}
use Rattle.json_read_names.specs.declared.forms.ContractForm.TheVariants as contracts
use Rattle.json_read_names.specs.declared.forms.CaseForm.{CaseForm}
use Rattle.json_read_names.specs.declared.forms.CaseForm.TheVariants as cases
use Rattle.json_read_names.specs.declared.forms.ActionForm.{ActionForm}
use Rattle.json_read_names.specs.declared.forms.ActionForm.TheVariants as actions
use Rattle.json_read_names.specs.declared.forms.InputForm.{InputForm}
use Rattle.json_read_names.specs.declared.forms.InputForm.TheVariants as inputs

-- the value is an object with this key
abbrev pub has : List ℕ → Data → Bool
has key d = is_some (get key d)

abbrev pub has_two : List ℕ → List ℕ → Data → Bool
has_two a b d = has a d && has b d

abbrev pub has_three : List ℕ → List ℕ → List ℕ → Data → Bool
has_three a b c d = has a d && has_two b c d

abbrev is_that : List ℕ → Option (List ℕ) → Bool
is_that word None = false
is_that word (Some text) = same_text text word

-- the value is this text
abbrev pub is_word : List ℕ → Data → Bool
is_word word d = is_that word (as_str d)

abbrev pub is_number : Data → Bool
is_number d = is_some (as_number d)

unfoldable pub value_form : Data → ValueForm
value_form d =
    if is_number d then values.Constant
    else (if is_word (codes "time_interval_start") d then values.TimeIntervalStart
    else (if is_word (codes "time_interval_end") d then values.TimeIntervalEnd
    else (if has_two (codes "amount_of_token") (codes "in_account") d then values.AvailableMoney
    else (if has (codes "negate") d then values.NegValue
    else (if has_two (codes "add") (codes "and") d then values.AddValue
    else (if has_two (codes "value") (codes "minus") d then values.SubValue
    else (if has_two (codes "multiply") (codes "times") d then values.MulValue
    else (if has_two (codes "divide") (codes "by") d then values.DivValue
    else (if has (codes "value_of_choice") d then values.ChoiceValue
    else (if has (codes "use_value") d then values.UseValue
    else (if has_three (codes "if") (codes "then") (codes "else") d then values.Cond
    else values.Nothing)))))))))))

-- `true`, `false`, or another form
abbrev truth_or : ObservationForm → Option Bool → ObservationForm
truth_or other (Some true) = observations.TrueObs
truth_or other (Some false) = observations.FalseObs
truth_or other None = other

unfoldable pub observation_form : Data → ObservationForm
observation_form d = truth_or
    (if has_two (codes "both") (codes "and") d then observations.AndObs
    else (if has_two (codes "either") (codes "or") d then observations.OrObs
    else (if has (codes "not") d then observations.NotObs
    else (if has (codes "chose_something_for") d then observations.ChoseSomething
    else (if has_two (codes "value") (codes "ge_than") d then observations.ValueGE
    else (if has_two (codes "value") (codes "gt") d then observations.ValueGT
    else (if has_two (codes "value") (codes "lt") d then observations.ValueLT
    else (if has_two (codes "value") (codes "le_than") d then observations.ValueLE
    else (if has_two (codes "value") (codes "equal_to") d then observations.ValueEQ
    else observations.Nothing)))))))))
    (as_bool d)

unfoldable pub contract_form : Data → ContractForm
contract_form d =
    if is_word (codes "close") d then contracts.Close
    else (if has_two (codes "pay") (codes "token") d && has_three (codes "from_account") (codes "to") (codes "then") d then contracts.Pay
    else (if has_three (codes "if") (codes "then") (codes "else") d then contracts.If
    else (if has_three (codes "when") (codes "timeout") (codes "timeout_continuation") d then contracts.When
    else (if has_three (codes "let") (codes "be") (codes "then") d then contracts.Let
    else (if has_two (codes "assert") (codes "then") d then contracts.Assert
    else contracts.Nothing)))))

unfoldable pub case_form : Data → CaseForm
case_form d =
    if has_two (codes "case") (codes "then") d then cases.Plain
    else (if has_two (codes "case") (codes "merkleized_then") d then cases.Merkleized
    else cases.Nothing)

unfoldable pub action_form : Data → ActionForm
action_form d =
    if has_two (codes "party") (codes "deposits") d && has_two (codes "of_token") (codes "into_account") d then actions.Deposit
    else (if has_two (codes "for_choice") (codes "choose_between") d then actions.Choice
    else (if has (codes "notify_if") d then actions.Notify
    else actions.Nothing))

unfoldable pub input_form : Data → InputForm
input_form d =
    if is_word (codes "input_notify") d then inputs.Notify
    else (if has_two (codes "input_from_party") (codes "that_deposits") d && has_two (codes "of_token") (codes "into_account") d then inputs.Deposit
    else (if has_two (codes "for_choice_id") (codes "input_that_chooses_num") d then inputs.Choice
    else inputs.Nothing))
