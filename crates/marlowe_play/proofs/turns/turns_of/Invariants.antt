use Rattle.std.proofs.Common.{◌≡◌, ◌+◌, ◌++◌, length, map, take}
use Rattle.play_setup.specs.SetUp.{currencies, plan_on}
use Rattle.marlowe_play.proofs.turns.turns_of.Given as goal

abbrev pub invariant-loop-plan : goal.invariant-loop-plan
invariant-loop-plan g l =
    (map (λ turn. turn.party.plan) l.turns.items ≡ map (plan_on (currencies l.contracts) l.starts) (take l.plan-index l.plans))
    × (map (λ turn. turn.place.seat) l.turns.items ++ l.seats.items ≡ l.fn.seats.items)
    × (length l.seats.items + l.plan-index ≡ length l.plans)
