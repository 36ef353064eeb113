use Rattle.std.proofs.Common.{◌≡◌, ◌++◌, drop}
use Rattle.builder_spec.specs.Parts.{all_roles}
use Rattle.builder.proofs.steps.all_roles.Given as goal

abbrev pub invariant-loop-step : goal.invariant-loop-step
invariant-loop-step l = l.roles.items ++ all_roles (drop l.step-index l.steps) ≡ all_roles l.steps
