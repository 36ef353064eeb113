use Rattle.std.proofs.Common.{◌≡◌, List, sym, ◌∙◌, ap, subst}
use mathlib.Core.List.{IsPrefix}
use Rattle.journal.specs.Notes.{told}
use Rattle.journal.specs.declared.note.Note.{Note}
use Rattle.journal.proofs.LawLemmas.{look_moves}
use Rattle.journal.proofs.NotesLemmas.{told_prefix, told_still, prefix_trans}
use Rattle.journal.proofs.journal.Journal.covers.Goals as goal

pub compare_exchange-requires : goal.compare_exchange-requires
compare_exchange-requires g c =
    let i = c.self.invariant in
    let book = c.learn.ensures.0 ∙ ap (λ s. s.book) c.again-both.ensures in
    let offer = c.plain-offer.ensures in (
      ap (λ w. w.tracked) i.0,
      book ∙ (i.1 ∙ sym (ap (λ w. w.book) i.0)),
      i.2 ∙ sym (ap (λ w. w.book) i.0),
      offer.0,
      rw (ap (λ w. w.key) i.0, offer.3) (look_moves c.learn.new.self.log c.plain-offer.result.ask c.self.inside.pen.nib i.3),
    )

pub invariant_of-self : goal.invariant_of-self
invariant_of-self g c =
    let i = c.self.invariant in
    let e = c.compare_exchange.ensures in
    (i.0, i.1, e.5 ∙ i.2, ap (λ p. p.right) e.7.0 ∙ i.3, ap (λ p. p.key) e.7.0 ∙ i.4)

pub returns-clause-prefix : goal.returns-clause-prefix
returns-clause-prefix g c =
    let i = c.self.invariant in
    let e = c.compare_exchange.ensures in
    let l = c.learn.ensures in
    let mid = c.learn.new.self.log in
    let now = c.compare_exchange.new.seen.log in
    let mine = subst (λ (l : List (Note g.row.E.Denot)). IsPrefix l mid) (ap (λ s. s.log) c.again-both.ensures) l.2 in
    let whole : told g.J.Naming.first now ≡ told g.J.Naming.first c.self.inside.seen.log = told_still g.J.Naming.first c.self.inside.pen.nib.key c.self.inside.seen.log now (prefix_trans _ _ _ mine e.6) i.4 e.7.1 in
    let theirs = told_prefix g.J.Naming.first c.beginning.inside.seen.log now (prefix_trans _ _ _ l.3 e.6) in
    rw (← c.self.view_is, ← c.beginning.view_is, ← whole) theirs
