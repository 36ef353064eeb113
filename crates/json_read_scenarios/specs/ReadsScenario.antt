-- What a JSON value stands for as a scenario.
use Rattle.std.specs.Prelude.{List, ◌&&◌, Ok, Err, codes, if◌then◌else◌}
use Rattle.std.specs.FinMap.{empty}
use Rattle.serde_json.specs.Data.{Data}
use Rattle.contract.specs.Names.Orders.{account_cmp, token_cmp}
use Rattle.contract.specs.States.States.{StateMaps}
use Rattle.plans.specs.declared.scenario.Funds.{Funds}
use Rattle.plans.specs.declared.scenario.NamedContract.{NamedContract}
use Rattle.plans.specs.declared.scenario.NamedThread.{NamedThread}
use Rattle.plans.specs.declared.scenario.Scenario.{Scenario}
use Rattle.contract.specs.Collections.Answers.{◌>>=◌}
use Rattle.json_read_names.specs.Forms.{has_two, has_three}
use Rattle.json_read_names.specs.Parts.{Reading, reading_at, text, bytes, time, list}
use Rattle.json_read_names.specs.declared.fault.JsonFault.TheVariants.{NoForm}
use Rattle.json_read_contracts.specs.ReadsContract as contracts
use Rattle.json_read_inputs.specs.ReadsState.{account_row, amount_row, rows}
use Rattle.json_read_scenarios.specs.Names.{known, new_name, list_in_turn}
use Rattle.json_read_scenarios.specs.ReadsPlan.{contract_name, thread_name, plan}

-- what an address has when the ledger begins
abbrev pub funds : Data → Reading Funds
funds d =
    if has_two (codes "address") (codes "amount") d then (do
      address ← reading_at text d (codes "address")
      amount ← reading_at (rows token_cmp amount_row) d (codes "amount")
      Ok (record { address = address; amount = amount }))
    else Err NoForm

-- a contract, beside those before it
abbrev pub contract : List NamedContract → Data → Reading NamedContract
contract before d =
    if has_three (codes "name") (codes "currency") (codes "contract") d then (do
      name ← reading_at (new_name contract_name before) d (codes "name")
      currency ← reading_at bytes d (codes "currency")
      contract ← reading_at contracts.contract d (codes "contract")
      Ok (record { name = name; currency = currency; contract = contract }))
    else Err NoForm

-- the state with which a thread starts: nothing is chosen or bound
abbrev pub first_state : Data → Reading StateMaps
first_state d = do
  accounts ← reading_at (rows account_cmp account_row) d (codes "accounts")
  min_time ← reading_at time d (codes "minTime")
  Ok (record { accounts = accounts; choices = empty; bound_values = empty; min_time = min_time })

-- a thread of one of these contracts, beside those before it
abbrev pub new_thread : List NamedContract → List NamedThread → Data → Reading NamedThread
new_thread contracts before d =
    if has_three (codes "name") (codes "contract") (codes "by") d && has_two (codes "accounts") (codes "minTime") d then (do
      name ← reading_at (new_name thread_name before) d (codes "name")
      contract ← reading_at (known contract_name contracts) d (codes "contract")
      by ← reading_at text d (codes "by")
      state ← first_state d
      Ok (record { name = name; contract = contract; by = by; state = state }))
    else Err NoForm

abbrev pub scenario : Data → Reading Scenario
scenario d =
    if has_three (codes "tick") (codes "genesis") (codes "contracts") d && has_two (codes "threads") (codes "plans") d then (do
      tick ← reading_at time d (codes "tick")
      genesis ← reading_at (list funds) d (codes "genesis")
      contracts ← reading_at (list_in_turn contract) d (codes "contracts")
      threads ← reading_at (list_in_turn (new_thread contracts)) d (codes "threads")
      plans ← reading_at (list_in_turn (plan contracts threads)) d (codes "plans")
      Ok (record { tick = tick; genesis = genesis; contracts = contracts; threads = threads; plans = plans }))
    else Err NoForm
