use Rattle.json_write_contracts.proofs.AddsLaws.{then, wrote}
use Rattle.analysis_lines.proofs.kept.put_object.Goals as goal

pub returns : goal.returns
returns c = then (wrote c.in_ok-begin_object.ensures) (then (wrote c.in_ok-key.ensures) (then c.in_ok-put_party.ensures.put (then (wrote c.in_ok-key-2.ensures) (then c.in_ok-put_tokens.ensures (wrote c.in_ok-end_object.ensures)))))
