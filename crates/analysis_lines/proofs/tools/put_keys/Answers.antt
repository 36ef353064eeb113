use Rattle.analysis_lines.proofs.LinesLemmas.{place_put}
use Rattle.analysis_lines.proofs.tools.put_keys.Goals as goal

pub returns : goal.returns
returns c = place_put _ _ _ _ c.as_slice.ensures c.in_ok-put_place_json.ensures.put
