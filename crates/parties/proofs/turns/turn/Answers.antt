use Rattle.std.proofs.Common.{arith, ◌≡◌, ℕ, ◌-◌, IfSome, List, length, take, drop, Option, Result, sym, subst}
use Rattle.std.specs.Prelude.{MatchResult}
use Rattle.hub.specs.LedgerSpec.BuilderSpec.declared.fault.BuildFault.{BuildFault}
use Rattle.hub.specs.Seats.{ReceiptRecord}
use Rattle.parties.specs.declared.acts.Act.{Act}
use Rattle.parties.specs.PlaysSupport.{AreShown, HandsIn, LeavesOut, call_of, Went}
use Rattle.parties.proofs.PlaysLemmas.{are_shown, went_same, went_more, lent_rest, handed, left_by_looks, some_more, on_err_always}
use Rattle.parties.specs.Plays.{asks_of, added, IsLeftOut}
use Rattle.parties.proofs.turns.turn.Goals as goal

pub returns-in_err-next-clause-err : goal.returns-in_err-next-clause-err
returns-in_err-next-clause-err g c = on_err_always _ (Went c.args.means.now.plan.now c.args.seat.now c.look_at_all.new.seat) c.in_ok-all.ensures.ok.went

pub returns-in_err-noted-in-Some-Ok-clause-err : goal.returns-in_err-noted-in-Some-Ok-clause-err
returns-in_err-noted-in-Some-Ok-clause-err g c =
    let plan = c.args.means.now.plan.now in
    on_err_always _ (Went plan c.args.seat.now c.noted.new.seat) (went_more plan c.args.seat.now c.look_at_all.new.seat c.noted.new.seat c.in_ok-all.ensures.ok.went (went_same plan c.look_at_all.new.seat c.noted.new.seat c.in_err-noted-in-Some-Ok.ensures.err))

-- all that was asked is shown
pub next_of-requires : goal.next_of-requires
next_of-requires g c =
    let plan = c.args.means.now.plan.now in
    let lent : List ReceiptRecord = c.as_slice.result.now in
    let at : ℕ = c.len-before.result in
    let here : at ≡ length c.args.receipts.now.items = omega (arith, c.len-before.ensures, c.args.receipts.now.ok.0) in
    let rest = lent_rest lent c.look_at_all.new.receipts.items at (length c.args.receipts.now.items) c.as_slice.ensures.value here in
    subst AreShown (sym rest) (are_shown plan (asks_of plan c.args.intent.now) c.args.seat.now c.look_at_all.new.seat c.args.receipts.now.items c.look_at_all.new.receipts.items (c.in_ok-all.ensures.all c.if-not-all.false))

-- what is handed in was made of the looks of this turn
pub returns-in_ok-noted-in-Some-Ok-clause-ok : goal.returns-in_ok-noted-in-Some-Ok-clause-ok
returns-in_ok-noted-in-Some-Ok-clause-ok g c =
    let plan = c.args.means.now.plan.now in
    let intent = c.args.intent.now in
    let call = call_of c.in-Some-Ok.act in
    let lent : List ReceiptRecord = c.as_slice.result.now in
    let at : ℕ = c.len-before.result in
    let here : at ≡ length c.args.receipts.now.items = omega (arith, c.len-before.ensures, c.args.receipts.now.ok.0) in
    let some = subst (λ (o : Option (Result Act BuildFault)). IfSome o (λ made. MatchResult made (λ act. HandsIn plan intent (take (length lent - at) (drop at lent)) (call_of act)) (LeavesOut plan intent (take (length lent - at) (drop at lent))))) c.in-Some-Ok.is c.in_ok-next.ensures in
    let next = subst (λ (made : Result Act BuildFault). MatchResult made (λ act. HandsIn plan intent (take (length lent - at) (drop at lent)) (call_of act)) (LeavesOut plan intent (take (length lent - at) (drop at lent)))) c.in-Some-Ok.field-0-is some in
    let shown = subst (λ (rs : List ReceiptRecord). HandsIn plan intent rs call) (lent_rest lent c.look_at_all.new.receipts.items at (length c.args.receipts.now.items) c.as_slice.ensures.value here) next in
    handed plan intent call c.args.seat.now c.look_at_all.new.seat c.noted.new.seat c.args.receipts.now.items c.look_at_all.new.receipts.items c.noted.new.receipts.items c.requires.has (c.in_ok-all.ensures.all c.if-not-all.false) shown c.in_ok-noted-in-Some-Ok.ensures.ok

pub returns-in_err-left-in-Some-Err-clause-err : goal.returns-in_err-left-in-Some-Err-clause-err
returns-in_err-left-in-Some-Err-clause-err g c = on_err_always _ (Went c.args.means.now.plan.now c.args.seat.now c.look_at_all.new.seat) c.in_ok-all.ensures.ok.went

-- what is left out is by the looks of this turn
pub returns-in_ok-left-in-Some-Err-clause-left : goal.returns-in_ok-left-in-Some-Err-clause-left
returns-in_ok-left-in-Some-Err-clause-left g c =
    let plan = c.args.means.now.plan.now in
    let intent = c.args.intent.now in
    let fault : BuildFault = c.in-Some-Err.fault in
    let lent : List ReceiptRecord = c.as_slice.result.now in
    let at : ℕ = c.len-before.result in
    let here : at ≡ length c.args.receipts.now.items = omega (arith, c.len-before.ensures, c.args.receipts.now.ok.0) in
    let some = subst (λ (o : Option (Result Act BuildFault)). IfSome o (λ made. MatchResult made (λ act. HandsIn plan intent (take (length lent - at) (drop at lent)) (call_of act)) (LeavesOut plan intent (take (length lent - at) (drop at lent))))) c.in-Some-Err.is c.in_ok-next.ensures in
    let next = subst (λ (made : Result Act BuildFault). MatchResult made (λ act. HandsIn plan intent (take (length lent - at) (drop at lent)) (call_of act)) (LeavesOut plan intent (take (length lent - at) (drop at lent)))) c.in-Some-Err.field-0-is some in
    let rest = lent_rest lent c.look_at_all.new.receipts.items at (length c.args.receipts.now.items) c.as_slice.ensures.value here in
    some_more _ (IsLeftOut plan (added c.args.seat.now c.look_at_all.new.seat)) c.in_ok-left-in-Some-Err.left
    (λ l h. left_by_looks plan c.args.place intent fault l c.args.seat.now c.look_at_all.new.seat c.args.receipts.now.items c.look_at_all.new.receipts.items (take (length lent - at) (drop at lent)) c.requires.at (c.in_ok-all.ensures.all c.if-not-all.false) rest next h.0 h.1 h.2)
    c.in_ok-left-in-Some-Err.ensures
