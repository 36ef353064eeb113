use Rattle.json_write_contracts.proofs.AddsLaws.{wrote, behind}
use Rattle.next_lines.specs.Json.{range_json}
use Rattle.next_lines.proofs.ListedLemmas.{list_put}
use Rattle.next_lines.proofs.json_inputs.put_choice.Goals as goal

pub returns : goal.returns
returns c =
    behind _ _ c.end_with_three.result (wrote c.in_ok-begin_object.ensures)
    (behind _ _ c.end_with_three.result (wrote c.in_ok-key.ensures)
    (behind _ _ c.end_with_three.result (list_put range_json _ _ _ _ c.as_slice.ensures c.in_ok-put_list.ensures) c.end_with_three.ensures.put))
