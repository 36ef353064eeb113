use Rattle.json_write_contracts.proofs.AddsLaws.{then, wrote}
use Rattle.analysis_lines.proofs.LinesLemmas.{word_put, place_put}
use Rattle.analysis_lines.proofs.tools.put_without_run.Goals as goal

pub returns : goal.returns
returns c = then (wrote c.in_ok-begin_object.ensures) (then (wrote c.in_ok-key.ensures) (then (word_put _ _ _ _ c.kind_name.ensures c.in_ok-word.ensures.put) (then (wrote c.in_ok-key-2.ensures) (then (place_put _ _ _ _ c.deref.ensures.value c.in_ok-put_place_json.ensures.put) (wrote c.in_ok-end_object.ensures)))))
