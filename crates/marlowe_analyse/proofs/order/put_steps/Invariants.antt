use Rattle.std.proofs.Common.{◌≡◌, ◌++◌, take}
use Rattle.std.specs.Prelude.{flat_map}
use Rattle.marlowe_analyse.specs.Order.{step_key}
use Rattle.marlowe_analyse.proofs.order.put_steps.Given as goal

abbrev pub invariant-loop-step : goal.invariant-loop-step
invariant-loop-step l = l.key.items ≡ l.fn.key.items ++ flat_map step_key (take l.step-index l.place)
