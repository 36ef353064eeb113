use Rattle.std.proofs.Common.{◌≡◌, List, ap, subst}
use mathlib.Core.List.{IsPrefix}
use Rattle.journal.specs.Notes.{told}
use Rattle.journal.specs.declared.note.Note.{Note}
use Rattle.journal.proofs.NotesLemmas.{told_prefix, told_sealed}
use Rattle.journal.proofs.sealed.Sealed.covers.Goals as goal

pub returns : goal.returns
returns g c =
    let e = c.learn.ensures in
    let both = c.learn.new.self.log in
    let mine = subst (λ (l : List (Note g.row.E.Denot)). IsPrefix l both) (ap (λ s. s.log) c.again-both.ensures) e.2 in
    let whole : told g.J.Naming.first both ≡ told g.J.Naming.first c.self.inside.seen.log = told_sealed e.4.0 g.J.Naming.first c.self.inside.seen.log both mine e.4.1.spent c.self.invariant.1 in
    let theirs = told_prefix g.J.Naming.first c.beginning.inside.seen.log both e.3 in
    rw (← c.self.view_is, ← c.beginning.view_is, ← whole) theirs
