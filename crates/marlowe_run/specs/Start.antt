-- The state in which transactions start.
use Rattle.std.specs.Prelude.{ℕ, pos, Bool, true, false, List, Option, Some, None, Ok}
use Rattle.std.specs.FinMap.{empty}
use Rattle.serde_json.specs.Data.{Data}
use Rattle.contract.specs.States.States.{StateMaps}
use Rattle.json_read_names.specs.Parts.{Reading}
use Rattle.json_read_names.specs.ReadsText.{of_text}
use Rattle.json_read_inputs.specs.ReadsState.{state, state_with_texts}

-- whether a number of an account, a choice or a bound value may also be a text of its digits
abbrev pub state_reading : Bool → Data → Reading StateMaps
state_reading true = state_with_texts
state_reading false = state

-- no account, nothing chosen and nothing bound, from time 0 on
abbrev pub at_first : StateMaps
at_first = record { accounts = empty; choices = empty; bound_values = empty; min_time = pos 0 }

-- the state of a text, or where there is none that one
abbrev pub start_of : Bool → Option (List ℕ) → Reading StateMaps
start_of texts None = Ok at_first
start_of texts (Some text) = of_text (state_reading texts) text
