use Rattle.json_write_contracts.proofs.AddsLaws.{then, wrote}
use Rattle.note_lines.proofs.tools.put_notes_json.Goals as goal

pub returns : goal.returns
returns c =
    then (wrote c.in_ok-begin_object.ensures)
    (then (wrote c.in_ok-key.ensures) (then c.in_ok-put_once.ensures (then (wrote c.in_ok-key-2.ensures) (then c.in_ok-put_each.ensures (wrote c.in_ok-end_object.ensures)))))
