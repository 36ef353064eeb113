use Rattle.std.proofs.Common.{rules, ◌≡◌, ℕ, ◌+◌, ◌<◌, true≢false, List, length, take, get_or, sym, ap, ◌∙◌, arith}
use Rattle.std.proofs.lemmas.List.{take_more, length-take}
use Rattle.std.proofs.lemmas.Bool.Decides.{nat_tests}
use Rattle.hub.specs.Seats.{SeatRecord, AreNumbered}
use Rattle.hub.proofs.SeatsLemmas.{number_or, numbered_one}
use Rattle.hub.proofs.hub.are_in_order.Goals as goal

pub returns-then-number-next : goal.returns-then-number-next
returns-then-number-next g c =
    let all : List SeatRecord = c.args.seats.now.items in
    let i : ℕ = c.loop-seat.seat-index in
    let seat : SeatRecord = c.seat-item.result in
    let here : i < length all = search rules in
    let item : get_or all i seat ≡ seat = search rules in (
      λ h. absurd cc,
      λ (n : AreNumbered 0 all).
          let is : seat.number ≡ 0 + i = ap (λ (s : SeatRecord). s.number) (sym item) ∙ number_or 0 all i seat n here in
          absurd (grind (arith, nat_tests, c.if-number-next.true, c.number.ensures, c.loop-seat.invariant.0, is)),
    )

pub loop-seat-preserved : goal.loop-seat-preserved
loop-seat-preserved g c =
    let all : List SeatRecord = c.args.seats.now.items in
    let i : ℕ = c.loop-seat.seat-index in
    let seat : SeatRecord = c.seat-item.result in
    let here : i < length all = search rules in
    let item : get_or all i seat ≡ seat = search rules in
    let is : seat.number ≡ i = grind (arith, nat_tests, c.if-number-next.false, c.number.ensures, c.loop-seat.invariant.0) in
    let more = numbered_one 0 (take i all) seat c.loop-seat.invariant.1 (omega (arith, is, length-take i all, here)) in
    (ap (λ (n : ℕ). n + 1) c.loop-seat.invariant.0, rw (take_more all i seat here, item) more)
