use Rattle.std.proofs.Common.{◌≡◌, ◌++◌, drop, string_bytes}
use Rattle.play_endings.specs.StepTexts.{steps_texts}
use Rattle.play_endings.proofs.steps.steps_texts.Given as goal

abbrev pub invariant-loop-step : goal.invariant-loop-step
invariant-loop-step l =
    string_bytes l.out ++ steps_texts l.spelling l.threads l.interval l.place (drop l.step-index l.steps) l.rest ≡ steps_texts l.spelling l.threads l.interval l.place l.steps l.turn
