use Rattle.std.proofs.Common.{subst}
use Rattle.std.proofs.lemmas.Result.{IfOk-weaker}
use Rattle.unread_keys.specs.Unread.{notes_in}
use Rattle.unread_notes.specs.Notes.{AreNotes}
use Rattle.unread_notes.proofs.notes.notes_on.Goals as goal

pub returns-in-Ok : goal.returns-in-Ok
returns-in-Ok c =
    IfOk-weaker c.notes_of.result _ _
    (λ lines are. λ utf8. subst (λ t. AreNotes c.args.file.now t (notes_in c.args.depth t c.args.sort) lines.items) c.in-Ok.ensures.cases.0 are)
    c.notes_of.ensures
