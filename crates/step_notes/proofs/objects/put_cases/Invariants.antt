use Rattle.std.proofs.Common.{◌≡◌, ◌++◌, drop, string_bytes}
use Rattle.machine.specs.Evaluation.Path.{waits_for}
use Rattle.machine.specs.Table.Flat.{cont_tree}
use Rattle.step_notes.specs.StepObjects.{case_objects}
use Rattle.step_notes.proofs.objects.put_cases.Given as goal

abbrev pub invariant-loop-index : goal.invariant-loop-index
invariant-loop-index l =
    let ks = waits_for (cont_tree l.table l.place.0) in
    string_bytes l.out ++ case_objects l.interval l.state l.index (drop l.index ks) ≡ string_bytes l.fn.out ++ case_objects l.interval l.state 0 ks
