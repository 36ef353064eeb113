use Rattle.std.proofs.Common.{◌∙◌}
use Rattle.json_read_names.proofs.ListLaws.{front_step}
use Rattle.json_read_contracts.specs.ReadsContract.{case}
use Rattle.json_read_contracts.proofs.contracts.+contract_from_json.Goals as goal

pub cases_from_json-loop-item-preserved : goal.cases_from_json-loop-item-preserved
cases_from_json-loop-item-preserved g t c =
    front_step g.J.JsonValue.json case c.loop-item.cases c.push.new.self c.in_ok-case_from_json.field-0 c.in_ok-items.items.now c.loop-item.item-index c.item-item.result
    c.in_ok-push.ensures.added c.loop-item-test.true c.item-item.is c.in_ok-case_from_json.ensures.reading
    ∙ c.loop-item.invariant
