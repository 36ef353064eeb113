use Rattle.std.proofs.Common.{List, ℕ, ◌++◌, ap, ◌∙◌}
use Rattle.std.proofs.lemmas.Result.{on_ok_weaker}
use Rattle.analysis_lines.proofs.LinesLemmas.{lines_some, lines_none}
use Rattle.analysis_lines.proofs.lines.put_alarms.Goals as goal

pub returns-then-none : goal.returns-then-none
returns-then-none c =
    on_ok_weaker c.put_bytes.result (λ h. h ∙ ap (λ (ls : List ℕ). c.args.out.now.items ++ ls) (lines_none c.args.runs c.args.alarms.now c.is_empty-none.result c.is_empty-none.ensures c.if-none.true)) c.put_bytes.ensures

pub returns : goal.returns
returns c =
    on_ok_weaker c.put_each.result (λ h. h ∙ ap (λ (ls : List ℕ). c.args.out.now.items ++ ls) (lines_some c.args.runs c.args.alarms.now c.is_empty-none.result c.is_empty-none.ensures c.if-none.false)) c.put_each.ensures
