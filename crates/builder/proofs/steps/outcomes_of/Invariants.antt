use Rattle.std.proofs.Common.{◌≡◌, drop, take}
use Rattle.builder_spec.specs.Parts.{parts_semantics_cause}
use Rattle.builder.specs.PartsSupport.{AreOutcomes}
use Rattle.builder.proofs.steps.outcomes_of.Given as goal

abbrev pub invariant-loop-step : goal.invariant-loop-step
invariant-loop-step l = record {
  outcomes : AreOutcomes l.asked (take l.step-index l.steps) l.outcomes.items;
  causes : parts_semantics_cause l.asked l.steps ≡ parts_semantics_cause l.asked (drop l.step-index l.steps);
}
