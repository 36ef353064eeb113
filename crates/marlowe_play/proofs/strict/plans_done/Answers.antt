use Rattle.std.proofs.Common.{◌≡◌, ◌∙◌, map, sym}
use Rattle.std.specs.Prelude.{slice_get}
use Rattle.marlowe_play.specs.Strict.{plan_done, plans_done}
use Rattle.marlowe_play.proofs.StrictLemmas.{goes_on, stops}
use Rattle.marlowe_play.proofs.strict.plans_done.Goals as goal

-- where one isn't done, not all are
pub returns-then-not-done : goal.returns-then-not-done
returns-then-not-done c =
    let s = c.args.scenario.now in
    let es = c.args.entries.now in
    let taken = c.args.taken.now in
    let i = c.loop-place.place in
    let v = c.index-left-place.result in
    let all = plans_done s es taken 0 (map (λ l. l.items) c.args.left.now) in
    let said : c.in_ok-done.done ≡ plan_done es taken i (slice_get s.plans i) v.items = cc (c.in_ok-done.ensures, c.plan_at-plan.ensures, c.as_slice.ensures, c.deref.ensures.value) in
    stops (λ l. l.items) s es taken c.args.left.now i v all c.loop-place-test.true c.index-left-place.is (sym c.if-not-done.true ∙ said) c.loop-place.invariant

-- where one is, the others decide
pub loop-place-preserved : goal.loop-place-preserved
loop-place-preserved c =
    let s = c.args.scenario.now in
    let es = c.args.entries.now in
    let taken = c.args.taken.now in
    let i = c.loop-place.place in
    let v = c.index-left-place.result in
    let all = plans_done s es taken 0 (map (λ l. l.items) c.args.left.now) in
    let said : c.in_ok-done.done ≡ plan_done es taken i (slice_get s.plans i) v.items = cc (c.in_ok-done.ensures, c.plan_at-plan.ensures, c.as_slice.ensures, c.deref.ensures.value) in
    goes_on (λ l. l.items) s es taken c.args.left.now i v all c.loop-place-test.true c.index-left-place.is (sym c.if-not-done.false ∙ said) c.loop-place.invariant
