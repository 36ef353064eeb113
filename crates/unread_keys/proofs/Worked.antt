-- The worked rows compute.
use Rattle.std.proofs.Common.{refl}
use Rattle.json.proofs.OnLiterals.{json_on_literals}
use Rattle.unread_keys.specs.Rows.{ContractsHaveNotes, StatesHaveNotes, ScenariosHaveNotes}

pub contracts_have_notes : ContractsHaveNotes
unfolding json_on_literals
contracts_have_notes = (refl, refl, refl, refl, refl)

pub states_have_notes : StatesHaveNotes
unfolding json_on_literals
states_have_notes = refl

pub scenarios_have_notes : ScenariosHaveNotes
unfolding json_on_literals
scenarios_have_notes = refl
