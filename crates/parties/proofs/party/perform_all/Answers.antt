use Rattle.std.proofs.Common.{refl, sym, subst, List}
use Rattle.std.proofs.lemmas.List.Elements.{All-nil}
use Rattle.std.specs.List.{All}
use Rattle.parties.specs.declared.left_out.LeftOut.{LeftOut}
use Rattle.parties.specs.Plays.{IsLeftOut, added}
use Rattle.parties.specs.PlaysSupport.{Went}
use Rattle.parties.proofs.PlaysLemmas.{noted_same, noted_more, went_more, on_err_always, all_left}
use Rattle.parties.proofs.party.perform_all.Goals as goal

pub loop-place-init : goal.loop-place-init
loop-place-init g c =
    let plan = c.args.means.now.plan.now in
    let s = c.args.seat.now in
    (noted_same plan s s c.args.receipts.now.items c.args.receipts.now.items refl refl, subst (λ (ls : List LeftOut). All (IsLeftOut plan (added s s)) ls) (sym c.new-left.ensures.items) (All-nil (IsLeftOut plan (added s s))))

pub returns-in_err-told-clause-err : goal.returns-in_err-told-clause-err
returns-in_err-told-clause-err g c =
    let plan = c.args.means.now.plan.now in
    on_err_always _ (Went plan c.args.seat.now c.perform.new.seat) (went_more plan c.args.seat.now c.loop-place.seat c.perform.new.seat c.loop-place.invariant.0.went c.in_err-told.ensures.err)

pub returns-in_err-keep-clause-err : goal.returns-in_err-keep-clause-err
returns-in_err-keep-clause-err g c =
    let plan = c.args.means.now.plan.now in
    on_err_always _ (Went plan c.args.seat.now c.perform.new.seat) (went_more plan c.args.seat.now c.loop-place.seat c.perform.new.seat c.loop-place.invariant.0.went c.in_ok-told.ensures.ok.went)

pub loop-place-preserved : goal.loop-place-preserved
loop-place-preserved g c =
    let plan = c.args.means.now.plan.now in
    let a = c.args.seat.now in
    let b = c.loop-place.seat in
    let d = c.perform.new.seat in (
      noted_more plan a b d c.args.receipts.now.items c.loop-place.receipts.items c.perform.new.receipts.items c.loop-place.invariant.0 c.in_ok-told.ensures.ok,
      subst (λ (ls : List LeftOut). All (IsLeftOut plan (added a d)) ls) (sym c.in_ok-keep.ensures) (all_left plan a b d c.loop-place.left.items c.in_ok-told.told c.loop-place.invariant.0.went c.in_ok-told.ensures.ok.went c.loop-place.invariant.1 c.in_ok-told.ensures.left),
    )

pub returns-clause-ok : goal.returns-clause-ok
returns-clause-ok g c = c.loop-place.invariant.0

pub returns-clause-left : goal.returns-clause-left
returns-clause-left g c = c.loop-place.invariant.1
