use Rattle.std.proofs.Common.{take}
use Rattle.hub.specs.HubSupport.{AllFit}
use Rattle.hub.proofs.hub.check_all_seats.Given as goal

abbrev pub invariant-loop-seat : goal.invariant-loop-seat
invariant-loop-seat g l = AllFit l.history (take l.seat-index l.seats.items)
