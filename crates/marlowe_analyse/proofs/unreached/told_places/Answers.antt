use Rattle.std.proofs.Common.{List, sym, subst}
use Rattle.std.specs.Prelude.{All}
use Rattle.std.specs.List.Sorted.{IsSortedByKey}
use Rattle.marlowe_analyse.specs.declared.unreached.Spot.{Spot}
use Rattle.marlowe_analyse.specs.Order.{key_cmp}
use Rattle.marlowe_analyse.specs.RunsSupport.{IsSpotOf}
use Rattle.marlowe_analyse.proofs.UnreachedLemmas.{places_told}
use Rattle.marlowe_analyse.proofs.unreached.told_places.Goals as goal

pub returns : goal.returns
returns c =
    let at = sym c.deref.ensures.value in
    places_told c.args.places.now c.deref.result.now c.in_ok-told.told (subst (All (IsSpotOf c.args.places.now)) at c.in_ok-spots.ensures.spots)
    (subst (λ (ss : List Spot). IsSortedByKey (λ (s : Spot). s.key.items) key_cmp ss) at c.in_ok-spots.ensures.sorted) c.in_ok-told.ensures
