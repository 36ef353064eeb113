use Rattle.std.proofs.Common.{◌≡◌, ◌++◌, drop}
use Rattle.builder.specs.PartsSupport.{HaveRoom, outcomes_outputs, data_after}
use Rattle.builder.proofs.steps.put_blocks.Given as goal

-- what stands there and what is left to come is all
abbrev pub invariant-loop-step : goal.invariant-loop-step
invariant-loop-step l = record {
  room : HaveRoom (drop l.step-index l.steps) l.outcomes.items;
  outputs : l.outputs ++ outcomes_outputs (drop l.step-index l.steps) l.outcomes.items ≡ l.fn.outputs ++ outcomes_outputs l.steps l.fn.outcomes.items;
  datums : l.datums ++ data_after (drop l.step-index l.steps) l.outcomes.items ≡ l.fn.datums ++ data_after l.steps l.fn.outcomes.items;
}
