use Rattle.std.proofs.Common.{◌≡◌, [], ◌∷◌, ◌++◌, List, length-append, ap, ◌∙◌, arith}
use Rattle.hub.specs.declared.answer.Answer.{Answer}
use Rattle.hub.specs.Seats.{SeatRecord, seat_record}
use Rattle.hub.proofs.SeatsLemmas.{answered-append, numbered_one}
use Rattle.hub.proofs.opening.Opening.open.Goals as goal

pub loop-number-preserved : goal.loop-number-preserved
loop-number-preserved g c =
    let i = c.loop-number.invariant in
    let before : List SeatRecord = c.loop-number.all.items in
    let seat : SeatRecord = seat_record c.loop-number.number [] in
    let now : c.push.new.self.items ≡ before ++ seat ∷ [] = c.in_ok-push.ensures.items ∙ ap (λ (l : List Answer). before ++ seat_record c.loop-number.number l ∷ []) c.new.ensures.items in
    let long = length-append before (seat ∷ []) in
    let none = answered-append before (seat ∷ []) in
    let left = c.split_off.ensures.parts_left in
    let amount = c.split_off.ensures.amount_left in
    rw now (
      omega (arith, i.0, left),
      omega (arith, i.1, amount),
      omega (arith, i.2, long),
      numbered_one 0 before seat i.3 (omega (arith, i.2)),
      omega (arith, i.4, none),
    )
