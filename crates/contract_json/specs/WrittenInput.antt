-- The JSON values that are written for inputs and transactions, and whether JSON has their numbers.
use Rattle.std.specs.Prelude.{map, Bool, true, codes}
use Rattle.std.specs.List.{list_all}
use Rattle.serde_json.specs.Data.{Data, string, array}
use Rattle.serde_json.specs.View.{items_of}
use Rattle.contract.specs.declared.input.Input.{Input}
use Rattle.contract.specs.declared.input.Input.TheVariants as inputs
use Rattle.contract.specs.declared.interval.Interval.{Interval}
use Rattle.contract.specs.declared.transaction.Transaction.{Transaction}
use Rattle.json_write_contracts.specs.WrittenNames.{two, four, number_json, number_fits, party_json, token_json, choice_id_json}

abbrev pub input_json : Input → Data
input_json (inputs.Deposit a p t n) = four (codes "input_from_party") (party_json p) (codes "into_account") (party_json a) (codes "of_token") (token_json t) (codes "that_deposits") (number_json n)
input_json (inputs.Choice id n) = two (codes "for_choice_id") (choice_id_json id) (codes "input_that_chooses_num") (number_json n)
input_json inputs.Notify = string (codes "input_notify")

abbrev pub input_fits : Input → Bool
input_fits (inputs.Deposit a p t n) = number_fits n
input_fits (inputs.Choice id n) = number_fits n
input_fits inputs.Notify = true

abbrev pub interval_json : Interval → Data
interval_json i = two (codes "from") (number_json i.from) (codes "to") (number_json i.to)

abbrev pub transaction_json : Transaction → Data
transaction_json t = two (codes "tx_inputs") (array (items_of (map input_json t.inputs))) (codes "tx_interval") (interval_json t.interval)

-- whether JSON has each number of a transaction's inputs
abbrev pub transaction_fits : Transaction → Bool
transaction_fits t = list_all input_fits t.inputs
