-- What a JSON value stands for as an input, an interval and a transaction.
use Rattle.std.specs.Prelude.{Ok, Err, codes, if◌then◌else◌}
use Rattle.serde_json.specs.Data.{Data}
use Rattle.contract.specs.declared.input.Input.{Input}
use Rattle.contract.specs.declared.input.Input.TheVariants as inputs
use Rattle.contract.specs.declared.interval.Interval.{Interval}
use Rattle.contract.specs.declared.transaction.Transaction.{Transaction}
use Rattle.json_read_names.specs.Forms.{has_two, input_form}
use Rattle.contract.specs.Collections.Answers.{◌>>=◌}
use Rattle.json_read_names.specs.Parts.{Reading, reading_at, whole_number, time, list}
use Rattle.json_read_names.specs.ReadsNames.{party, token, choice_id}
use Rattle.json_read_names.specs.declared.fault.JsonFault.TheVariants.{NoForm}
use Rattle.json_read_names.specs.declared.forms.InputForm.{InputForm}
use Rattle.json_read_names.specs.declared.forms.InputForm.TheVariants as input_forms

-- An input of each form.
unfoldable pub input_by : InputForm → Data → Reading Input
input_by input_forms.Notify d = Ok inputs.Notify
input_by input_forms.Deposit d = do
  depositor ← reading_at party d (codes "input_from_party")
  amount ← reading_at whole_number d (codes "that_deposits")
  token ← reading_at token d (codes "of_token")
  account ← reading_at party d (codes "into_account")
  Ok (inputs.Deposit account depositor token amount)
input_by input_forms.Choice d = do
  id ← reading_at choice_id d (codes "for_choice_id")
  number ← reading_at whole_number d (codes "input_that_chooses_num")
  Ok (inputs.Choice id number)
input_by input_forms.Nothing d = Err NoForm

abbrev pub input : Data → Reading Input
input d = input_by (input_form d) d

abbrev pub interval : Data → Reading Interval
interval d =
    if has_two (codes "from") (codes "to") d then (do
      from ← reading_at time d (codes "from")
      to ← reading_at time d (codes "to")
      Ok (record { from = from; to = to }))
    else Err NoForm

abbrev pub transaction : Data → Reading Transaction
transaction d =
    if has_two (codes "tx_interval") (codes "tx_inputs") d then (do
      interval ← reading_at interval d (codes "tx_interval")
      inputs ← reading_at (list input) d (codes "tx_inputs")
      Ok (record { interval = interval; inputs = inputs }))
    else Err NoForm
