use Rattle.std.proofs.Common.{◌≡◌, ◌++◌, drop}
use Rattle.builder_spec.specs.Parts.{own_outputs}
use Rattle.builder.proofs.steps.own_outputs.Given as goal

abbrev pub invariant-loop-step : goal.invariant-loop-step
invariant-loop-step l = l.owns.items ++ own_outputs (drop l.step-index l.steps) ≡ own_outputs l.steps
