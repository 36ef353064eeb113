use Rattle.std.proofs.Common.{◌∙◌, ◌+◌, ◌++◌, ap, append_assoc, drop, map, string_bytes}
use Rattle.std.specs.Prelude.{slice_get}
use Rattle.marlowe_play.specs.Notes.{plan_told, marlowe_play, put_plan, put_plans}
use Rattle.marlowe_play.proofs.NotesLemmas.{plan_next, told_next}
use Rattle.marlowe_play.proofs.notes.put_plans.Goals as goal

-- one plan more
pub loop-place-preserved : goal.loop-place-preserved
loop-place-preserved c =
    let sp = c.args.spelling in
    let s = c.args.scenario.now in
    let es = c.args.entries.now in
    let taken = c.args.taken.now in
    let i = c.loop-place.place in
    let v = c.index-left-place.result in
    let rest = drop (i + 1) (map (λ l. l.items) c.args.left.now) in
    let notes = map (λ s. string_bytes s) c.loop-place.told.notes.items in
    let lines = string_bytes c.loop-place.told.lines in
    let put = c.in_ok-put_plan.ensures.notes ∙ ap (λ left. put_plan sp s es taken i (slice_get s.plans i) left notes) c.deref.ensures.value in
    let said = c.in_ok-put_plan.ensures.lines ∙ ap (λ left. lines ++ plan_told sp s es taken i (slice_get s.plans i) left) c.deref.ensures.value in (
      ap (λ new. put_plans sp s es taken (i + 1) rest new) put
          ∙ plan_next (λ l. l.items) sp s es taken c.args.left.now i v notes c.loop-place-test.true c.index-left-place.is
          ∙ c.loop-place.invariant.0,
      ap (λ t. t ++ marlowe_play sp s es taken (i + 1) rest) said
          ∙ append_assoc lines (plan_told sp s es taken i (slice_get s.plans i) v.items) (marlowe_play sp s es taken (i + 1) rest)
          ∙ ap (λ t. lines ++ t) (told_next (λ l. l.items) sp s es taken c.args.left.now i v c.loop-place-test.true c.index-left-place.is)
          ∙ c.loop-place.invariant.1,
    )
