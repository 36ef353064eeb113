use Rattle.std.proofs.Common.{[], ◌∷◌, ◌++◌, map, ap, ◌∙◌}
use Rattle.contract.specs.Tree.{contract_tree}
use Rattle.analysis_lines.specs.ToldLines.{line_of}
use Rattle.analysis_lines.specs.Tools.{told_json}
use Rattle.analysis_lines.proofs.LinesLemmas.{whole_text}
use Rattle.analysis_lines.proofs.tools.json_for_tools.Goals as goal

pub returns : goal.returns
returns c =
    let t = c.args.told.now in
    c.in_ok-push.ensures.items
    ∙ ap (λ text. text ++ 10 ∷ [])
    (whole_text c.new-out.result c.put_told.new.out c.new.result.items c.into_inner-text.result.items
    (told_json c.args.runs c.args.notes c.args.state.now (contract_tree c.args.contract.now) (map line_of t.alarms.items) t.unreached t.ranges t.out t.losses)
    c.new.ensures.items c.new-out.ensures.before c.new-out.ensures.tokens c.in_ok-put_told.ensures c.into_inner-text.ensures.items)
