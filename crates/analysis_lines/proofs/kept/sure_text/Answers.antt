use Rattle.std.proofs.Common.{◌∙◌, string_bytes}
use Rattle.analysis_lines.specs.Kept.{least_text, down_text}
use Rattle.analysis_lines.proofs.LinesLemmas.{sure_pieces}
use Rattle.analysis_lines.proofs.kept.sure_text.Goals as goal

pub returns : goal.returns
returns c =
    let k = c.args.kept.now in
    sure_pieces c.as_str.result.now (least_text k.least) c.as_str-2.result.now (down_text k.most) (string_bytes c.in_ok-text.text) c.in_ok-text.ensures (c.as_str.ensures.value ∙ c.in_ok-least.ensures)
    (c.as_str-2.ensures.value ∙ c.in_ok-most.ensures)
