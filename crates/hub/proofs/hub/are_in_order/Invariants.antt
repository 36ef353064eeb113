use Rattle.std.proofs.Common.{◌≡◌, take}
use Rattle.hub.specs.Seats.{AreNumbered}
use Rattle.hub.proofs.hub.are_in_order.Given as goal

abbrev pub invariant-loop-seat : goal.invariant-loop-seat
invariant-loop-seat g l = (l.next ≡ l.seat-index) × AreNumbered 0 (take l.seat-index l.seats.items)
