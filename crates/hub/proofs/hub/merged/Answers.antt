use Rattle.std.proofs.Common.{◌≡◌, ◌+◌, [], ◌∷◌, ◌++◌, List, length, length-append, ap, ◌∙◌, arith}
use Rattle.std.specs.Prelude.{option_to_list}
use Rattle.hub.specs.Seats.{SeatRecord, answered}
use Rattle.hub.proofs.SeatsLemmas.{answered-append}
use Rattle.hub.proofs.hub.merged.Goals as goal

pub loop-seat-preserved : goal.loop-seat-preserved
loop-seat-preserved g c =
    let i = c.loop-seat.invariant in
    let left : List SeatRecord = c.pop.new.self.items in
    let seat : SeatRecord = c.in-Some.seat in
    let all : c.loop-seat.seats.items ≡ left ++ seat ∷ [] = c.pop.ensures.items ∙ ap (λ o. left ++ option_to_list o) c.in-Some.is in
    let long : length c.loop-seat.seats.items ≡ length left + 1 = ap (λ (l : List SeatRecord). length l) all ∙ length-append left (seat ∷ []) in
    let sum : answered c.loop-seat.seats.items ≡ answered left + answered (seat ∷ []) = ap answered all ∙ answered-append left (seat ∷ []) in
    let parts = c.merge.ensures.parts in
    let amount = c.merge.ensures.amount in
    let share = c.into_share.ensures in
    (omega (arith, i.0, long, parts, share.0), omega (arith, i.1, sum, amount, share.1))
