use Rattle.std.proofs.Common.{◌≡◌, drop}
use Rattle.builder_spec.specs.Parts.{parts_authority_cause}
use Rattle.builder.proofs.steps.check_actors.Given as goal

abbrev pub invariant-loop-step : goal.invariant-loop-step
invariant-loop-step l = parts_authority_cause l.asked l.steps ≡ parts_authority_cause l.asked (drop l.step-index l.steps)
