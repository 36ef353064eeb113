use Rattle.std.proofs.Common.{true, List, ℕ, ◌++◌, ap, ◌∙◌}
use Rattle.std.proofs.lemmas.Result.{on_ok_weaker}
use Rattle.analysis_lines.specs.Lines.{run_lines, holder_text}
use Rattle.analysis_lines.proofs.LinesLemmas.{three_pieces}
use Rattle.analysis_lines.proofs.reached.put_with_run.Goals as goal

pub returns : goal.returns
returns c =
    let a = c.args.out.now.items in
    let b = c.put_holder.new.out.items in
    let second = c.in_ok-put_bytes.ensures ∙ ap (λ (x : List ℕ). b ++ x) c.as_bytes.ensures.value in
    on_ok_weaker c.put_run.result
    (λ h. three_pieces a b c.put_bytes.new.out.items c.put_run.new.out.items (holder_text c.args.party.now c.args.token.now) c.args.bound.now (run_lines true c.args.run.now) c.in_ok-put_holder.ensures second h) c.put_run.ensures
