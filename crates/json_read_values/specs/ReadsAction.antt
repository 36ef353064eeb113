-- What a JSON value stands for as an action (Marlowe specification version 3, "Actions and inputs").
use Rattle.std.specs.Prelude.{Ok, Err, codes}
use Rattle.serde_json.specs.Data.{Data}
use Rattle.contract.specs.declared.tree.Action.{Action}
use Rattle.contract.specs.declared.tree.Action.TheVariants as actions
use Rattle.json_read_names.specs.Forms.{action_form}
use Rattle.contract.specs.Collections.Answers.{◌>>=◌}
use Rattle.json_read_names.specs.Parts.{Reading, reading_at, of_one, list}
use Rattle.json_read_names.specs.ReadsNames.{party, token, choice_id, bound}
use Rattle.json_read_names.specs.declared.fault.JsonFault.TheVariants.{NoForm}
use Rattle.json_read_names.specs.declared.forms.ActionForm.{ActionForm}
use Rattle.json_read_names.specs.declared.forms.ActionForm.TheVariants as action_forms
use Rattle.json_read_values.specs.ReadsValue.{value, observation}

-- An action of each form.
unfoldable pub action_by : ActionForm → Data → Reading Action
action_by action_forms.Deposit d = do
  depositor ← reading_at party d (codes "party")
  amount ← reading_at value d (codes "deposits")
  token ← reading_at token d (codes "of_token")
  account ← reading_at party d (codes "into_account")
  Ok (actions.Deposit account depositor token amount)
action_by action_forms.Choice d = do
  id ← reading_at choice_id d (codes "for_choice")
  bounds ← reading_at (list bound) d (codes "choose_between")
  Ok (actions.Choice id bounds)
action_by action_forms.Notify d = of_one actions.Notify (reading_at observation d (codes "notify_if"))
action_by action_forms.Nothing d = Err NoForm

abbrev pub action : Data → Reading Action
action d = action_by (action_form d) d
