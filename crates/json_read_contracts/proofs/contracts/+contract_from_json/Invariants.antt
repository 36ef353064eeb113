use Rattle.std.proofs.Common.{◌≡◌, ◌+◌, ◌*◌, drop, map}
use Rattle.serde_json.specs.Data.{depth}
use Rattle.serde_json.specs.View.{items_of}
use Rattle.json_read_names.specs.Parts.{all_items}
use Rattle.json_read_names.proofs.ListLaws.{with_front}
use Rattle.json_read_contracts.specs.ReadsContract.{case}
use Rattle.json_read_contracts.proofs.contracts.+contract_from_json.Given as goal

-- a contract comes after its members
abbrev pub decreases-contract_from_json : goal.decreases-contract_from_json
decreases-contract_from_json g l = 4 * depth (g.J.JsonValue.json l.json.now) + 3

abbrev pub decreases-pay_from_json : goal.decreases-pay_from_json
decreases-pay_from_json g l = 4 * depth (g.J.JsonValue.json l.json.now) + 2

abbrev pub decreases-when_from_json : goal.decreases-when_from_json
decreases-when_from_json g l = 4 * depth (g.J.JsonValue.json l.json.now) + 2

abbrev pub decreases-timeout_and_then : goal.decreases-timeout_and_then
decreases-timeout_and_then g l = 4 * depth (g.J.JsonValue.json l.json.now) + 1

abbrev pub decreases-contracts_at : goal.decreases-contracts_at
decreases-contracts_at g l = 4 * depth (g.J.JsonValue.json l.json.now) + 1

abbrev pub decreases-contract_at : goal.decreases-contract_at
decreases-contract_at g l = 4 * depth (g.J.JsonValue.json l.json.now)

abbrev pub decreases-case_from_json : goal.decreases-case_from_json
decreases-case_from_json g l = 4 * depth (g.J.JsonValue.json l.json.now) + 3

abbrev pub decreases-then_of_case : goal.decreases-then_of_case
decreases-then_of_case g l = 4 * depth (g.J.JsonValue.json l.json.now)

abbrev pub decreases-cases_from_json : goal.decreases-cases_from_json
decreases-cases_from_json g l = 4 * depth (g.J.JsonValue.json l.json.now) + 3

-- those so far and those of what is left are those of all
abbrev pub invariant-cases_from_json-loop-item : goal.invariant-cases_from_json-loop-item
invariant-cases_from_json-loop-item g l =
    with_front l.cases (all_items case (items_of (map g.J.JsonValue.json (drop l.item-index l.items)))) ≡ all_items case (items_of (map g.J.JsonValue.json l.items))
