use Rattle.std.proofs.Common.{List, ℕ, ◌++◌, sym, subst, ◌∙◌, ap}
use Rattle.std.specs.Prelude.{All}
use Rattle.analysis_spec.specs.declared.path.PathStep.{PathStep}
use Rattle.marlowe_analyse.specs.Order.{place_key}
use Rattle.marlowe_analyse.specs.RunsSupport.{IsSpotOf}
use Rattle.marlowe_analyse.proofs.UnreachedLemmas.{one_spot}
use Rattle.marlowe_analyse.proofs.unreached.spots_of.Goals as goal

pub loop-place-preserved : goal.loop-place-preserved
loop-place-preserved c =
    let numbers =
    c.in_ok-put_steps.ensures ∙ (ap (λ (ns : List ℕ). ns ++ place_key c.as_slice.result.now) c.new-key.ensures.items ∙ ap (λ (p : List PathStep). place_key p) c.as_slice.ensures) in
    subst (All (IsSpotOf c.args.places.now)) (sym c.in_ok-push.ensures.items)
    (one_spot c.args.places.now c.loop-place.spots.items _ c.loop-place.invariant (c.loop-place.place-index, c.loop-place-test.true, sym c.place-item.is) numbers)
