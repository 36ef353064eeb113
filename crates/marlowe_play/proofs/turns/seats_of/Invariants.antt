use Rattle.std.proofs.Common.{◌≡◌, ◌∷◌, map, Ok}
use Rattle.marlowe_play.proofs.turns.seats_of.Given as goal

abbrev pub invariant-loop-seat : goal.invariant-loop-seat
invariant-loop-seat g l = (l.seats.items ≡ l.fn.first ∷ map (λ end. end.0) l.yielded) × (map (λ left. Ok left) l.all.items ≡ map (λ end. end.1) l.yielded)
