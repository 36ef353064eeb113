use Rattle.analysis_lines.specs.Kept.{kept_json}
use Rattle.analysis_lines.proofs.LinesLemmas.{whole_text}
use Rattle.analysis_lines.proofs.kept.kept_text.Goals as goal

pub returns : goal.returns
returns c =
    whole_text c.new-out.result c.put_object.new.out c.new.result.items c.into_inner.result.items (kept_json c.args.party.now c.args.kept.now)
    c.new.ensures.items c.new-out.ensures.before c.new-out.ensures.tokens c.in_ok-put_object.ensures c.into_inner.ensures.items
