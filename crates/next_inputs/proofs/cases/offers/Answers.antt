use Rattle.std.proofs.Common.{List, sym, subst, ◌∙◌, ap}
use Rattle.semantics.specs.Evaluation.Path.{waits_for}
use Rattle.claims.specs.Claims.{owner}
use Rattle.next_inputs.specs.declared.offer.Offer.{Offer}
use Rattle.next_inputs.specs.Offers.{AreOffers}
use Rattle.next_inputs.specs.Claiming.{is_way}
use Rattle.next_inputs.proofs.Ways.{way_lane}
use Rattle.next_inputs.proofs.Gathering.{settled_cases}
use Rattle.next_inputs.proofs.Shares.{by_count}
use Rattle.next_inputs.proofs.Offering.{are_offers}
use Rattle.next_inputs.proofs.cases.offers.Goals as goal

pub shares_of-requires : goal.shares_of-requires
shares_of-requires g c =
    let ks = waits_for (g.S.Parts.tree c.args.parts.now c.args.place) in
    let a = c.in_ok-claims.claims.items in
    rw (c.count_cases.ensures, c.deref-2.ensures.value)
    (by_count ks c.in_ok-settled.settled.items
    (settled_cases ks a c.in_ok-settled.settled.items c.in_ok-settled.ensures.apart c.in_ok-claims.ensures.cases (λ w n. c.in_ok-settled.ensures.owners (is_way w) n (way_lane w) ∙ ap (owner (is_way w) n) c.deref.ensures.value)))

pub returns : goal.returns
returns g c =
    let ks = waits_for (g.S.Parts.tree c.args.parts.now c.args.place) in
    subst (λ (fs : List Offer). AreOffers c.args.interval c.args.state.now ks fs) (sym c.in_ok-offers.ensures)
    (are_offers c.args.interval c.args.state.now ks c.in_ok-claims.claims.items c.in_ok-settled.settled.items c.in_ok-shares.shares.items c.in_ok-claims.ensures c.in_ok-settled.ensures.apart
    (λ is_lane n l. c.in_ok-settled.ensures.owners is_lane n l ∙ ap (owner is_lane n) c.deref.ensures.value) (c.in_ok-shares.ensures.each ∙ c.count_cases.ensures)
    (rw c.deref-2.ensures.value at c.in_ok-shares.ensures.shares))
