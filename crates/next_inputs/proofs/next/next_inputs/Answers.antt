use Rattle.std.proofs.Common.{◌≡◌, ap, sym, subst, ◌∙◌}
use Rattle.contract.specs.declared.interval.Interval.{Interval}
use Rattle.semantics.specs.Evaluation.Path.{waits_for}
use Rattle.semantics.specs.Walk.{standing}
use Rattle.semantics.specs.Transaction.{trimmed}
use Rattle.next_inputs.specs.Offers.{AreOffers}
use Rattle.next_inputs.proofs.Openings.{exact_next}
use Rattle.next_inputs.proofs.next.next_inputs.Goals as goal

pub returns : goal.returns
returns g c =
    let S = g.S.Parts in
    let o = c.args.parts.now in
    let i = c.args.interval in
    let s = c.args.state.now in
    let t = S.tree o c.args.place in
    let h = c.in_ok-opened.ensures in
    let now = c.in_ok-opened.opened.outcome in
    let offers : AreOffers (trimmed i s) now.state (waits_for (S.tree o now.place)) c.in_ok-offers.offers =
    subst (λ (j : Interval). AreOffers j now.state (waits_for (S.tree o now.place)) c.in_ok-offers.offers) c.fixed-fixed.ensures
    (rw c.place_left-left.ensures at c.in_ok-offers.ensures) in
    record {
      answer = h.answer;
      warnings = h.warnings;
      payments = h.payments;
      place = h.place;
      can_reduce = h.can_reduce;
      offers = offers;
      exact = exact_next i s t (standing now.state (S.tree o now.place)) c.in_ok-offers.offers h.answer offers;
    }
