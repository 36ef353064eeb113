use Rattle.std.proofs.Common.{sym, ◌∙◌, ap, ◌++◌}
use Rattle.std.proofs.lemmas.List.{append-nil}
use Rattle.journal.proofs.LawLemmas.{add_moves}
use Rattle.journal.specs.Notes.{told, entries_of}
use Rattle.journal.proofs.NotesLemmas.{told_step, key_step}
use Rattle.journal.proofs.journal.Journal.seal.Goals as goal

pub compare_exchange-requires : goal.compare_exchange-requires
compare_exchange-requires g c =
    let i = c.self.invariant in
    let offer = c.plain-offer.ensures in (
      ap (λ w. w.tracked) i.0,
      i.1 ∙ sym (ap (λ w. w.book) i.0),
      i.2 ∙ sym (ap (λ w. w.book) i.0),
      offer.0,
      rw (ap (λ w. w.key) i.0, offer.3) (add_moves c.self.inside.seen.log c.plain-offer.result.ask c.self.inside.pen.nib i.3 (ap (λ n. n.by) offer.1 ∙ ap (λ p. p.nib.key) c.of.ensures)),
    )

pub invariant_of-result : goal.invariant_of-result
invariant_of-result g c =
    let i = c.self.invariant in
    let e = c.compare_exchange.ensures in
    let a = e.7 in
    let ask = c.plain-offer.result.ask in
    let note = c.plain-offer.ensures.1 in
    let by = ap (λ n. n.by) note ∙ ap (λ p. p.nib.key) c.of.ensures in
    let key = key_step g.J.Naming.first c.self.inside.pen.nib.key c.self.inside.seen.log a.0 c.compare_exchange.new.seen.log ask i.4 by a.1 a.3 in
    (e.0 ∙ i.1, key ∙ (ap (λ n. n.next) note ∙ (ap (λ p. p.nib.key) c.of-2.ensures ∙ ap (λ n. n.key) c.no_pen-next.ensures.1)))

pub returns : goal.returns
returns g c =
    let i = c.self.invariant in
    let a = c.compare_exchange.ensures.7 in
    let ask = c.plain-offer.result.ask in
    let note = c.plain-offer.ensures.1 in
    let by = ap (λ n. n.by) note ∙ ap (λ p. p.nib.key) c.of.ensures in
    let list = told_step g.J.Naming.first c.self.inside.pen.nib.key c.self.inside.seen.log a.0 c.compare_exchange.new.seen.log ask i.4 by a.1 a.2 a.3 in
    list ∙ (ap (λ n. told g.J.Naming.first c.self.inside.seen.log ++ entries_of n.entry) note ∙ (append-nil (told g.J.Naming.first c.self.inside.seen.log) ∙ c.self.view_is))
