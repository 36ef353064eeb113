use Rattle.std.proofs.Common.{◌≡◌, ◌+◌, length}
use Rattle.hub.specs.Seats.{answered}
use Rattle.hub.proofs.hub.merged.Given as goal

abbrev pub invariant-loop-seat : goal.invariant-loop-seat
invariant-loop-seat g l = (l.all.parts + length l.seats.items ≡ length l.initial.seats.items) × (l.all.amount + answered l.seats.items ≡ answered l.initial.seats.items)

abbrev pub decreases-loop-seat : goal.decreases-loop-seat
decreases-loop-seat g l = goal.left-loop-seat g l
