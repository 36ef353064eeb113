use Rattle.next_inputs.proofs.OneInput.{takes_as_computed, else_is_refused}
use Rattle.next_inputs.proofs.laws.one_input_is_computed_so.Goals as goal

pub returns : goal.returns
returns c = record { taken = takes_as_computed; refused = else_is_refused }
