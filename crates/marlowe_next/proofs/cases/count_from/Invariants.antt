use Rattle.std.proofs.Common.{◌≡◌, ◌≤◌, ◌+◌, take, length, Option}
use Rattle.contract.specs.declared.fault.SemFault.{SemFault}
use Rattle.contract.specs.declared.input.Input.{Input}
use Rattle.marlowe_run.specs.Semantics.Evaluation.Path.{waits_for}
use Rattle.marlowe_next.specs.Applicable.{applicable_from}
use Rattle.marlowe_next.proofs.cases.count_from.Given as goal

abbrev pub invariant-loop-index : goal.invariant-loop-index
invariant-loop-index g l =
    let ks = waits_for (g.S.Parts.tree l.parts l.place) in
    record {
      counted : (refused : Input → Option SemFault) → l.count + length (applicable_from refused 0 (take l.fn.first ks) (take l.fn.first l.offers)) ≡ length (applicable_from refused 0 (take l.index ks) (take l.index l.offers));
      below : l.count ≤ l.index;
    }
