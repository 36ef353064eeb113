use Rattle.std.proofs.Common.{[], ◌∷◌, ◌++◌, ap, ◌∙◌}
use Rattle.next_lines.specs.Json.{told_json}
use Rattle.next_lines.specs.Seen.{seen}
use Rattle.next_lines.proofs.ListedLemmas.{whole_text}
use Rattle.next_lines.proofs.json_text.told_json.Goals as goal

pub returns : goal.returns
returns c =
    c.in_ok-push.ensures.items
    ∙ ap (λ text. text ++ 10 ∷ [])
    (whole_text c.new-out.result c.put_told.new.out c.new.result.items c.into_inner-text.result.items (told_json (seen c.args.told)) c.new.ensures.items c.new-out.ensures.before c.new-out.ensures.tokens c.in_ok-put_told.ensures
    c.into_inner-text.ensures.items)
