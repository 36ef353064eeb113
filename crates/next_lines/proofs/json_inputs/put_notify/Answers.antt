use Rattle.json_write_contracts.proofs.AddsLaws.{wrote, behind}
use Rattle.next_lines.proofs.json_inputs.put_notify.Goals as goal

pub returns : goal.returns
returns c = behind _ _ c.end_with_three.result (wrote c.in_ok-begin_object.ensures) c.end_with_three.ensures.put
