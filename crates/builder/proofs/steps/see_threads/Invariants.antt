use Rattle.std.proofs.Common.{take}
use Rattle.builder.specs.PartsSupport.{ArePositive}
use Rattle.builder.proofs.steps.see_threads.Given as goal

abbrev pub invariant-loop-step : goal.invariant-loop-step
invariant-loop-step l = ArePositive (take l.step-index l.steps)
