use Rattle.std.proofs.Common.{drop}
use Rattle.contract.specs.Tree.{contract_tree}
use Rattle.alike_alarms.proofs.PartLemmas.{LeadsTo}
use Rattle.alike_alarms.proofs.parts.part_at.Given as goal

abbrev pub invariant-loop-step : goal.invariant-loop-step
invariant-loop-step l = LeadsTo l.place (contract_tree l.contract) (drop l.step-index l.place) (contract_tree l.at)
