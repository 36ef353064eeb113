use Rattle.std.proofs.Common.{ap, sym, ◌∙◌, arith, get_or}
use Rattle.text_spots.specs.declared.spots.Spot.{Spot}
use Rattle.text_spots.specs.SpotsSupport.{next_spot}
use Rattle.text_spots.proofs.SpotLemmas.{spot_next, spot_within}
use Rattle.text_spots.proofs.spots.spot_on.Goals as goal

pub loop-at-init : goal.loop-at-init
loop-at-init c =
    let w = spot_within c.args.text.now c.args.known in
    record {
      behind = c.requires.behind;
      spot = c.requires.spot;
      line = omega (arith, ap (λ (s : Spot). s.line) c.requires.spot, w.0);
      column = omega (arith, ap (λ (s : Spot). s.column) c.requires.spot, w.1);
    }

pub loop-at-preserved : goal.loop-at-preserved
loop-at-preserved c = record {
  behind = omega (arith, c.loop-at.invariant.behind);
  spot = c.past-here.ensures.next ∙ ap (λ s. next_spot s (get_or c.args.text.now c.loop-at.at 0)) c.loop-at.invariant.spot ∙ sym (spot_next c.args.text.now c.loop-at.at c.loop-at.invariant.behind (omega (arith, c.loop-at-test.true, c.requires.inside)));
  line = omega arith;
  column = omega arith;
}
