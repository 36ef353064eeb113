use Rattle.std.proofs.Common.{◌≡◌, ◌++◌, drop}
use Rattle.play_endings.specs.Endings.{taken_by}
use Rattle.play_endings.proofs.taken.put_round.Given as goal

abbrev pub invariant-loop-ticketed : goal.invariant-loop-ticketed
invariant-loop-ticketed l = l.taken.items ++ taken_by l.place (drop l.ticketed-index l.tickets) ≡ l.fn.taken.items ++ taken_by l.place l.tickets
