use Rattle.std.proofs.Common.{◌≡◌, List, map, take}
use Rattle.contract.specs.declared.input.Input.{Input}
use Rattle.hub.specs.EutxoTypes.declared.output_ref.OutputRef.{OutputRef}
use Rattle.parties.specs.Plays.{step_ask}
use Rattle.parties.proofs.building.step_asks.Given as goal

abbrev pub invariant-loop-step : goal.invariant-loop-step
invariant-loop-step l = l.asks.items ≡ map (λ (s : OutputRef × List Input). step_ask l.plan s.0) (take l.step-index l.steps)
