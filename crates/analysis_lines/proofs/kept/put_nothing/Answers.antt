use Rattle.std.proofs.Common.{List, ℕ, ◌++◌, ap, ◌∙◌}
use Rattle.std.proofs.lemmas.Result.{on_ok_weaker}
use Rattle.analysis_lines.specs.Lines.{given_text}
use Rattle.analysis_lines.specs.Kept.{nothing_text}
use Rattle.analysis_lines.proofs.LinesLemmas.{two_pieces}
use Rattle.analysis_lines.proofs.kept.put_nothing.Goals as goal

pub returns : goal.returns
returns c =
    let a = c.args.out.now.items in
    let first = c.in_ok-put_bytes.ensures ∙ ap (λ (x : List ℕ). a ++ x) (c.as_bytes.ensures.value ∙ c.in_ok-text.ensures) in
    on_ok_weaker c.put_given.result (λ h. two_pieces a c.put_bytes.new.out.items c.put_given.new.out.items (nothing_text c.args.party.now) (given_text c.args.given) first h) c.put_given.ensures
