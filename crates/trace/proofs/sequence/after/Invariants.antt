use Rattle.std.proofs.Common.{◌≡◌, [], drop}
use Rattle.contract.specs.Tree.{contract_tree}
use Rattle.semantics.specs.Walk.{standing}
use Rattle.analysis_spec.specs.Marks.{leads_after}
use Rattle.trace.specs.Traces.{left_by}
use Rattle.trace.proofs.sequence.after.Given as goal

abbrev pub invariant-loop-index : goal.invariant-loop-index
invariant-loop-index l =
    let from = standing l.fn.state (contract_tree l.fn.contract) in
    let here = standing l.left.state (contract_tree l.left.contract.now) in
    record {
      answer : left_by 0 from l.transactions ≡ left_by l.index here (drop l.index l.transactions);
      path : leads_after [] from l.transactions ≡ leads_after l.left.path here (drop l.index l.transactions);
    }
