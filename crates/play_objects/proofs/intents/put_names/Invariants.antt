use Rattle.std.proofs.Common.{◌≡◌, ◌++◌, drop, string_bytes}
use Rattle.play_objects.specs.IntentObjects.{step_names}
use Rattle.play_objects.proofs.intents.put_names.Given as goal

abbrev pub invariant-loop-index : goal.invariant-loop-index
invariant-loop-index l = string_bytes l.out ++ step_names l.threads l.index (drop l.index l.steps) ≡ string_bytes l.fn.out ++ step_names l.threads 0 l.steps
