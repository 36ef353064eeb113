use Rattle.std.proofs.Common.{◌≡◌, drop}
use Rattle.play_notes.specs.Lacking.{with_steps}
use Rattle.play_notes.proofs.lacking.with_steps.Given as goal

abbrev pub invariant-loop-step : goal.invariant-loop-step
invariant-loop-step l = with_steps l.token l.all (drop l.step-index l.steps) ≡ with_steps l.token l.fn.total l.steps
