-- The state in an outcome, as it is read again.
use Rattle.std.specs.Prelude.{codes}
use Rattle.serde_json.specs.Data.{Data}
use Rattle.contract.specs.States.States.{StateMaps}
use Rattle.json_read_names.specs.Parts.{Reading, reading_at}
use Rattle.json_read_inputs.specs.ReadsState.{state_with_texts}

abbrev pub state_of_outcome : Data → Reading StateMaps
state_of_outcome d = reading_at state_with_texts d (codes "state")
