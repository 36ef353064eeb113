use Rattle.json_write_contracts.proofs.AddsLaws.{then, wrote}
use Rattle.analysis_lines.proofs.kept.put_token_of.Goals as goal

pub returns : goal.returns
returns c = then (wrote c.in_ok-begin_object.ensures) (then (wrote c.in_ok-key.ensures) (then c.in_ok-put_bound.ensures (then (wrote c.in_ok-key-2.ensures) (then c.in_ok-put_least.ensures (then (wrote c.in_ok-key-3.ensures) (then c.in_ok-put_token.ensures.put (wrote c.in_ok-end_object.ensures)))))))
