use Rattle.json_write_contracts.proofs.AddsLaws.{then, wrote}
use Rattle.next_lines.specs.Json.{in_choices, in_deposits, in_leaves}
use Rattle.next_lines.proofs.ListedLemmas.{cases_put}
use Rattle.next_lines.proofs.json_inputs.put_inputs.Goals as goal

pub returns : goal.returns
returns c =
    then (wrote c.in_ok-begin_object.ensures)
    (then (wrote c.in_ok-key.ensures)
    (then (cases_put in_choices c.args.cases.now _ _ c.in_ok-put_listed.ensures)
    (then (wrote c.in_ok-key-2.ensures)
    (then (cases_put in_deposits c.args.cases.now _ _ c.in_ok-put_listed-2.ensures)
    (then (wrote c.in_ok-key-3.ensures)
    (then (cases_put in_leaves c.args.cases.now _ _ c.in_ok-put_listed-3.ensures) (then (wrote c.in_ok-key-4.ensures) (then c.in_ok-put_notify_of.ensures (wrote c.in_ok-end_object.ensures)))))))))
