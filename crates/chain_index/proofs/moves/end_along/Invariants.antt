use Rattle.std.proofs.Common.{◌≡◌, ◌-◌, length}
use Rattle.chain_index.specs.Moves.{leads, leads_within}
use Rattle.chain_index.proofs.moves.end_along.Given as goal

abbrev pub invariant-loop : goal.invariant-loop
invariant-loop l = leads_within (length l.moves.entries - l.counter) l.moves.entries l.at ≡ leads l.fn.start l.moves.entries
