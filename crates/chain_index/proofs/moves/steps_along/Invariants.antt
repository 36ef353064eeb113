use Rattle.std.proofs.Common.{◌≡◌, ◌-◌, ◌++◌, length}
use Rattle.chain_index.specs.Moves.{along, steps_within}
use Rattle.chain_index.proofs.moves.steps_along.Given as goal

abbrev pub invariant-loop : goal.invariant-loop
invariant-loop l = l.steps ++ steps_within (length l.moves.entries - l.counter) l.moves.entries l.at ≡ along l.fn.start l.moves.entries
