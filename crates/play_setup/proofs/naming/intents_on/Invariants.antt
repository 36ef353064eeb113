use Rattle.std.proofs.Common.{◌≡◌, map, take}
use Rattle.play_setup.specs.SetUp.{currencies, intent_on}
use Rattle.play_setup.proofs.naming.intents_on.Given as goal

abbrev pub invariant-loop-intent : goal.invariant-loop-intent
invariant-loop-intent l = l.named ≡ map (intent_on (currencies l.contracts) l.starts) (take l.intent-index l.intents)
