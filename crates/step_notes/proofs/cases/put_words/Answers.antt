use Rattle.std.proofs.Common.{◌∙◌, ◌++◌, ap, string_bytes}
use Rattle.std.proofs.lemmas.Result.{on_ok_weaker}
use Rattle.step_notes.specs.StepLines.{bounds_text, choice_start}
use Rattle.step_notes.proofs.PieceLemmas.{put_two}
use Rattle.step_notes.proofs.cases.put_words.Goals as goal

pub returns : goal.returns
returns c =
    let old = string_bytes c.args.out.now in
    let head = c.in_ok-push_str.ensures.bytes ∙ ap (λ t. old ++ t) (c.as_str.ensures.value ∙ c.in_ok-head.ensures) in
    on_ok_weaker c.put_bounds.result
    (λ h. put_two old (choice_start c.args.id.now) (bounds_text c.args.bounds.now) (string_bytes c.push_str.new.self) (string_bytes c.put_bounds.new.out) head h)
    c.put_bounds.ensures
