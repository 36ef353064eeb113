use Rattle.std.proofs.Common.{◌≡◌, ◌++◌, drop, map}
use Rattle.marlowe_play.specs.Notes.{left_intent}
use Rattle.marlowe_play.proofs.notes.left_intents.Given as goal

abbrev pub invariant-loop-out : goal.invariant-loop-out
invariant-loop-out l = l.intents.items ++ map left_intent (drop l.out-index l.left) ≡ map left_intent l.left
