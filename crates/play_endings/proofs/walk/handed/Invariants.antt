use Rattle.std.proofs.Common.{◌≡◌, drop}
use Rattle.play_endings.specs.Endings.{TRIES, handed}
use Rattle.play_endings.proofs.walk.handed.Given as goal

abbrev pub invariant-loop-index : goal.invariant-loop-index
invariant-loop-index l = handed l.tries l.turn (drop l.index l.own) ≡ handed TRIES l.own l.own
