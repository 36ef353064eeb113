use Rattle.std.proofs.Common.{◌≡◌, map, take}
use Rattle.parties.proofs.left_out.places_of.Given as goal

abbrev pub invariant-loop-receipt : goal.invariant-loop-receipt
invariant-loop-receipt g l = l.places.items ≡ map (λ r. r.entry) (take l.receipt-index l.shown)
