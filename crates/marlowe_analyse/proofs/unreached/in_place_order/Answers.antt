use Rattle.std.proofs.lemmas.List.Sorted.{All-permutation}
use Rattle.marlowe_analyse.specs.RunsSupport.{IsSpotOf}
use Rattle.marlowe_analyse.proofs.unreached.in_place_order.Goals as goal

pub returns : goal.returns
returns c = record {
  spots = All-permutation (IsSpotOf c.args.places.now) c.in_ok-spots.spots.items c.sort.new.self.items c.sort.ensures.permutation c.in_ok-spots.ensures;
  sorted = c.in_ok-sort.ensures.sorted;
}
