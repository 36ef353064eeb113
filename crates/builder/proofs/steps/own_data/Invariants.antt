use Rattle.std.proofs.Common.{◌≡◌, ◌++◌, drop, map}
use Rattle.builder_spec.specs.Steps.{Stepped}
use Rattle.builder.proofs.steps.own_data.Given as goal

abbrev pub invariant-loop-step : goal.invariant-loop-step
invariant-loop-step l = l.datums ++ map (λ (s : Stepped). s.thread.datum) (drop l.step-index l.steps) ≡ map (λ (s : Stepped). s.thread.datum) l.steps
