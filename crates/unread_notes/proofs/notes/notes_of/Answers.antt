use Rattle.std.proofs.Common.{map, ap, ◌∙◌}
use Rattle.std.proofs.lemmas.Result.{IfOk-weaker}
use Rattle.unread_keys.specs.Unread.{note_of, notes_in}
use Rattle.unread_notes.proofs.notes.notes_of.Goals as goal

pub returns : goal.returns
returns c =
    IfOk-weaker c.all_lines.result _ _
    (λ lines told. told (notes_in c.args.depth c.args.text.now c.args.sort) (ap (map note_of) c.as_slice.ensures.value ∙ c.in_ok-keys.ensures))
    c.all_lines.ensures
