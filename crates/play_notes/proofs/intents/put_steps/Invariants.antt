use Rattle.std.proofs.Common.{◌≡◌, ◌++◌, drop, string_bytes}
use Rattle.play_notes.specs.Intents.{steps_text}
use Rattle.play_notes.proofs.intents.put_steps.Given as goal

abbrev pub invariant-loop-step : goal.invariant-loop-step
invariant-loop-step l = string_bytes l.out ++ steps_text l.threads (drop l.step-index l.steps) ≡ string_bytes l.fn.out ++ steps_text l.threads l.steps
