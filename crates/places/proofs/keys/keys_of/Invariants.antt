use Rattle.std.proofs.Common.{drop}
use Rattle.contract.specs.Tree.{contract_tree}
use Rattle.places.proofs.PlacesLemmas.{Leads}
use Rattle.places.proofs.keys.keys_of.Given as goal

abbrev pub invariant-loop-step : goal.invariant-loop-step
invariant-loop-step l = Leads l.place (contract_tree l.contract) l.keys.items (drop l.step-index l.place) (contract_tree l.at)
