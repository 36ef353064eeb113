use Rattle.json_write_contracts.proofs.AddsLaws.{then, wrote}
use Rattle.analysis_lines.proofs.tools.put_with_notes.Goals as goal

pub returns : goal.returns
returns c =
    then (wrote c.in_ok-begin_object.ensures)
    (then (wrote c.in_ok-key.ensures)
    (then c.in_ok-put_alarms.ensures
    (then (wrote c.in_ok-key-2.ensures)
    (then c.in_ok-put_losses.ensures
    (then (wrote c.in_ok-key-3.ensures)
    (then c.in_ok-put_notes.ensures
    (then (wrote c.in_ok-key-4.ensures)
    (then c.in_ok-put_out.ensures
    (then (wrote c.in_ok-key-5.ensures)
    (then c.in_ok-put_ranges.ensures (then (wrote c.in_ok-key-6.ensures) (then c.in_ok-put_places.ensures (wrote c.in_ok-end_object.ensures)))))))))))))
