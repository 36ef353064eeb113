use Rattle.std.proofs.Common.{◌≡◌, true, ◌++◌, drop}
use Rattle.contract.specs.Tree.{contract_tree}
use Rattle.marlowe_run.specs.JsonWriteContracts.WrittenContract.{contract_fits}
use Rattle.marlowe_run.specs.Semantics.Walk.{standing}
use Rattle.trace.specs.Traces.{walks, left_by}
use Rattle.marlowe_trace.specs.Traced.{StatesReturn, lines_of}
use Rattle.marlowe_trace.proofs.steps.traced.Given as goal

-- what the transactions that are left do from where the contract stands is what all do from the start
abbrev pub invariant-loop-index : goal.invariant-loop-index
invariant-loop-index l = record {
  fits : contract_fits (contract_tree l.place.contract.now) ≡ true;
  refused : left_by 0 (standing l.fn.state (contract_tree l.fn.contract)) l.transactions ≡ left_by l.index (standing l.place.state (contract_tree l.place.contract.now)) (drop l.index l.transactions);
  lines : lines_of l.last (walks (standing l.fn.state (contract_tree l.fn.contract)) l.transactions)
      ≡ l.text.items ++ lines_of l.last (walks (standing l.place.state (contract_tree l.place.contract.now)) (drop l.index l.transactions));
  states : StatesReturn (standing l.place.state (contract_tree l.place.contract.now)) (drop l.index l.transactions) → StatesReturn (standing l.fn.state (contract_tree l.fn.contract)) l.transactions;
}
