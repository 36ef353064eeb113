use Rattle.std.proofs.Common.{refl}
use Rattle.parties.specs.Plays.{IsLeftOut, added}
use Rattle.parties.specs.PlaysSupport.{Went}
use Rattle.parties.proofs.PlaysLemmas.{noted_same, noted_more, went_more, on_err_always, some_more, left_later, added_more}
use Rattle.parties.proofs.turns.turns.Goals as goal

pub loop-init : goal.loop-init
loop-init g c = noted_same c.args.means.now.plan.now c.args.seat.now c.args.seat.now c.args.receipts.now.items c.args.receipts.now.items refl refl

pub returns-in_err-again-clause-err : goal.returns-in_err-again-clause-err
returns-in_err-again-clause-err g c =
    let plan = c.args.means.now.plan.now in
    on_err_always _ (Went plan c.args.seat.now c.turn.new.seat) (went_more plan c.args.seat.now c.loop.seat c.turn.new.seat c.loop.invariant.went c.in_err-again.ensures.err)

pub returns-then-not-again-clause-ok : goal.returns-then-not-again-clause-ok
returns-then-not-again-clause-ok g c = noted_more c.args.means.now.plan.now c.args.seat.now c.loop.seat c.turn.new.seat c.args.receipts.now.items c.loop.receipts.items c.turn.new.receipts.items c.loop.invariant c.in_ok-again.ensures.ok

pub loop-preserved : goal.loop-preserved
loop-preserved g c = noted_more c.args.means.now.plan.now c.args.seat.now c.loop.seat c.turn.new.seat c.args.receipts.now.items c.loop.receipts.items c.turn.new.receipts.items c.loop.invariant c.in_ok-again.ensures.ok

pub returns-then-not-again-clause-left : goal.returns-then-not-again-clause-left
returns-then-not-again-clause-left g c =
    let plan = c.args.means.now.plan.now in
    let a = c.args.seat.now in
    let b = c.loop.seat in
    let d = c.turn.new.seat in
    some_more (IsLeftOut plan (added b d)) (IsLeftOut plan (added a d)) c.in_ok-again.left
    (λ l h. left_later plan (added a b) (added b d) (added a d) l (added_more plan a b d c.loop.invariant.went c.in_ok-again.ensures.ok.went) h)
    c.in_ok-again.ensures.left
