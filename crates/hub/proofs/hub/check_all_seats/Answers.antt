use Rattle.std.proofs.Common.{rules, ◌≡◌, ℕ, ◌<◌, List, length, take, get_or}
use Rattle.std.proofs.lemmas.List.{take_more}
use Rattle.hub.specs.Seats.{SeatRecord}
use Rattle.hub.proofs.SeatsLemmas.{all_fit_one}
use Rattle.hub.proofs.hub.check_all_seats.Goals as goal

pub loop-seat-preserved : goal.loop-seat-preserved
loop-seat-preserved g c =
    let all : List SeatRecord = c.args.seats.now.items in
    let i : ℕ = c.loop-seat.seat-index in
    let seat : SeatRecord = c.seat-item.result in
    let here : i < length all = search rules in
    let item : get_or all i seat ≡ seat = search rules in
    let more = all_fit_one c.args.history.now (take i all) seat c.loop-seat.invariant c.check.ensures in
    rw (take_more all i seat here, item) more
