use Rattle.std.proofs.Common.{ap, sym, ◌∙◌, arith, get_or}
use Rattle.std.proofs.lemmas.List.{take_all}
use Rattle.text_spots.specs.Spots.{spot_behind}
use Rattle.text_spots.specs.SpotsSupport.{next_spot}
use Rattle.text_spots.proofs.SpotLemmas.{spot_more}
use Rattle.text_spots.proofs.spots.spot_behind.Goals as goal

pub loop-byte-preserved : goal.loop-byte-preserved
loop-byte-preserved c = record {
  at = c.past-spot.ensures.next ∙ ap (λ s. next_spot s (get_or c.args.bytes.now c.loop-byte.byte-index 0)) c.loop-byte.invariant.at ∙ sym (spot_more c.args.bytes.now c.loop-byte.byte-index c.loop-byte-test.true);
  line = omega arith;
  column = omega arith;
}

pub returns : goal.returns
returns c = c.loop-byte.invariant.at ∙ ap spot_behind (take_all c.loop-byte.byte-index c.args.bytes.now c.loop-byte-test.false)
