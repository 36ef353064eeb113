use Rattle.json_write_contracts.proofs.AddsLaws.{then, wrote}
use Rattle.next_lines.specs.Json.{warning_json}
use Rattle.next_lines.specs.Seen.{seen_warning}
use Rattle.next_lines.proofs.ListedLemmas.{seen_put}
use Rattle.next_lines.proofs.json_text.put_told.Goals as goal

pub returns : goal.returns
returns c =
    then (wrote c.in_ok-begin_object.ensures)
    (then (wrote c.in_ok-key.ensures)
    (then c.in_ok-put_inputs.ensures
    (then (wrote c.in_ok-key-2.ensures)
    (then c.in_ok-put_place_json.ensures.put
    (then c.in_ok-put_member.ensures.put
    (then (wrote c.in_ok-key-3.ensures)
    (then c.in_ok-put_list.ensures
    (then (wrote c.in_ok-key-4.ensures) (then c.in_ok-put_until.ensures (then (wrote c.in_ok-key-5.ensures) (then (seen_put warning_json seen_warning c.args.told.warned.now _ _ c.in_ok-put_list-2.ensures) (wrote c.in_ok-end_object.ensures))))))))))))
