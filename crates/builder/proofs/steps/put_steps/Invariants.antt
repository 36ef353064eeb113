use Rattle.std.proofs.Common.{◌≡◌, ◌++◌, drop, map}
use Rattle.builder_spec.specs.Laying.{by_step}
use Rattle.builder_spec.specs.Steps.{Stepped, own_output}
use Rattle.builder.proofs.steps.put_steps.Given as goal

abbrev pub invariant-loop-step : goal.invariant-loop-step
invariant-loop-step l =
    l.spends ++ map (λ (s : Stepped). by_step s.inputs (own_output s.thread)) (drop l.step-index l.steps) ≡ l.fn.spends ++ map (λ (s : Stepped). by_step s.inputs (own_output s.thread)) l.steps
