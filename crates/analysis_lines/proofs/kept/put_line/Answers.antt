use Rattle.std.proofs.Common.{List, ℕ, ◌++◌, ap, ◌∙◌}
use Rattle.std.proofs.lemmas.Result.{on_ok_weaker}
use Rattle.analysis_lines.specs.Lines.{holder_text, given_text}
use Rattle.analysis_lines.specs.Kept.{sure_text}
use Rattle.analysis_lines.proofs.LinesLemmas.{three_pieces}
use Rattle.analysis_lines.proofs.kept.put_line.Goals as goal

pub returns : goal.returns
returns c =
    let k = c.args.kept.now in
    let a = c.args.out.now.items in
    let b = c.put_holder.new.out.items in
    let sure = c.in_ok-put_bytes.ensures ∙ ap (λ (x : List ℕ). b ++ x) (c.as_bytes.ensures.value ∙ c.in_ok-sure.ensures) in
    on_ok_weaker c.put_given.result
    (λ h. three_pieces a b c.put_bytes.new.out.items c.put_given.new.out.items (holder_text c.args.party.now k.token) (sure_text k) (given_text c.args.given) c.in_ok-put_holder.ensures sure h) c.put_given.ensures
