use Rattle.std.proofs.Common.{◌++◌, take, ap, ◌∙◌}
use Rattle.std.proofs.lemmas.Result.{on_ok_weaker}
use Rattle.json_members.specs.Members.{next_text}
use Rattle.serde_json.specs.Written.{compact_text}
use Rattle.serde_json.specs.Data.{array}
use Rattle.serde_json.specs.View.{items_of}
use Rattle.told_parts.proofs.PieceLemmas.{ten_words}
use Rattle.told_parts.proofs.members.put_ten.Goals as goal

pub returns : goal.returns
returns c =
    on_ok_weaker c.put_next.result
    (λ e. e ∙ ap (λ ds. c.args.out.now.items ++ next_text c.args.key.now (compact_text (array (items_of ds)))) (ten_words c.args.words.now c.first_ten.result.now c.first_ten.ensures))
    c.put_next.ensures
