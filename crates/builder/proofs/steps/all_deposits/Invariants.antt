use Rattle.std.proofs.Common.{◌≡◌, ◌++◌, drop}
use Rattle.builder_spec.specs.Parts.{all_deposits}
use Rattle.builder.proofs.steps.all_deposits.Given as goal

abbrev pub invariant-loop-step : goal.invariant-loop-step
invariant-loop-step l = l.amounts.items ++ all_deposits (drop l.step-index l.steps) ≡ all_deposits l.steps
