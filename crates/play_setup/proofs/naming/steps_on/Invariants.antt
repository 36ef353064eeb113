use Rattle.std.proofs.Common.{◌≡◌, map, take}
use Rattle.play_setup.specs.SetUp.{step_on}
use Rattle.play_setup.proofs.naming.steps_on.Given as goal

abbrev pub invariant-loop-step : goal.invariant-loop-step
invariant-loop-step l = l.named ≡ map (step_on l.starts) (take l.step-index l.steps)
