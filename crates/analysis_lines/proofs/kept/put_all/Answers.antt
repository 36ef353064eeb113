use Rattle.std.proofs.Common.{ℕ, List, ◌++◌, ap, ◌∙◌}
use Rattle.std.proofs.lemmas.Result.{on_ok_weaker}
use Rattle.analysis_lines.proofs.LinesLemmas.{kept_none, kept_some}
use Rattle.analysis_lines.proofs.kept.put_all.Goals as goal

pub returns-then-is_empty : goal.returns-then-is_empty
returns-then-is_empty c =
    on_ok_weaker c.put_nothing.result
    (λ h. h ∙ ap (λ (x : List ℕ). c.args.out.now.items ++ x) (kept_none c.args.given c.args.party.now c.args.kept.now c.is_empty.result c.is_empty.ensures c.if-is_empty.true)) c.put_nothing.ensures

pub returns-else-is_empty : goal.returns-else-is_empty
returns-else-is_empty c =
    on_ok_weaker c.put_each.result
    (λ h. h ∙ ap (λ (x : List ℕ). c.args.out.now.items ++ x) (kept_some c.args.given c.args.party.now c.args.kept.now c.is_empty.result c.is_empty.ensures c.if-is_empty.false)) c.put_each.ensures
