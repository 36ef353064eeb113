use Rattle.std.specs.List.{AllZip}
use Rattle.marlowe_play.specs.PlayedSupport.{HasEnded}
use Rattle.marlowe_play.proofs.turns.in_turn.Given as goal

abbrev pub invariant-loop-turn : goal.invariant-loop-turn
invariant-loop-turn g l = AllZip (λ turn end. HasEnded turn.party.plan turn.place.seat end.0 end.1) l.yielded l.ended.items
