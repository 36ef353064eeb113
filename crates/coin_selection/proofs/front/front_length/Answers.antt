use Rattle.std.proofs.Common.{◌≡◌, false, take, subst, inl, arith}
use Rattle.builder_spec.specs.Holding.{amount_in}
use Rattle.builder_spec.specs.Fronts.{suffices}
use Rattle.builder_spec.proofs.SufficesLaws.{bundles_take}
use Rattle.coin_selection.specs.RequiredSupport.{required_amount, lacking_amount, IsMissing}
use Rattle.coin_selection.proofs.ListLaws.{up_to}
use Rattle.coin_selection.proofs.HalvesLemmas.{bundle_at}
use Rattle.coin_selection.proofs.RequiredLemmas.{meet_more}
use Rattle.coin_selection.proofs.EnoughLemmas.{met_suffices, unmet_lacks, up_one}
use Rattle.coin_selection.proofs.front.front_length.Goals as goal

pub returns-then-is_met : goal.returns-then-is_met
returns-then-is_met c =
    let us = c.args.offered.now in
    let i = c.loop-i.i in record {
      within = omega (arith, c.loop-i-test.true);
      shorter = c.loop-i.invariant.shorter;
      reached = inl (met_suffices c.args.roles.now c.args.amounts.now (take i us) c.loop-i.missing (bundles_take amount_in i us c.requires) c.loop-i.invariant.left (c.is_met.ensures.0 c.if-is_met.true));
    }

pub loop-i-preserved : goal.loop-i-preserved
loop-i-preserved c =
    let us = c.args.offered.now in
    let rs = c.args.roles.now in
    let ns = c.args.amounts.now in
    let i = c.loop-i.i in
    let u = c.index-offered-i.result in
    let more = meet_more amount_in (required_amount rs ns) c.loop-i.missing c.meet_output.new.missing (take i us) u c.loop-i.invariant.left (bundle_at amount_in us i u c.loop-i-test.true c.index-offered-i.is c.requires) c.meet_output.ensures in record {
      left = subst (λ vs. IsMissing (lacking_amount rs ns vs) c.meet_output.new.missing) (up_to us i u c.loop-i-test.true c.index-offered-i.is) more;
      shorter = up_one (λ k. suffices rs ns (take k us) ≡ false) i c.loop-i.invariant.shorter (unmet_lacks rs ns (take i us) c.loop-i.missing c.is_met.result (bundles_take amount_in i us c.requires) c.loop-i.invariant.left c.is_met.ensures.1 c.if-is_met.false);
    }
