use Rattle.std.proofs.Common.{sym, ◌∙◌, ap}
use Rattle.journal.proofs.LawLemmas.{draw_moves}
use Rattle.journal.proofs.steps.new_key.Goals as goal

pub compare_exchange-requires : goal.compare_exchange-requires
compare_exchange-requires g c =
    let h = c.requires in
    let offer = c.plain-offer.ensures in
    let pen = c.no_pen-pen.ensures in
    let seen = c.again-now.ensures in (
      ap (λ w. w.tracked) h,
      ap (λ s. s.book) seen ∙ sym (ap (λ w. w.book) h),
      pen.0 ∙ (ap (λ s. s.book) seen ∙ sym (ap (λ w. w.book) h)),
      offer.0,
      rw (ap (λ w. w.key) h, pen.1, offer.3) (draw_moves c.again-now.result.log c.plain-offer.result.ask),
    )
