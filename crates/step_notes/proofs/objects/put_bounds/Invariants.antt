use Rattle.std.proofs.Common.{◌≡◌, ◌++◌, drop, string_bytes}
use Rattle.step_notes.specs.StepObjects.{bound_objects}
use Rattle.step_notes.proofs.objects.put_bounds.Given as goal

abbrev pub invariant-loop-index : goal.invariant-loop-index
invariant-loop-index l = string_bytes l.out ++ bound_objects l.index (drop l.index l.bounds) ≡ string_bytes l.fn.out ++ bound_objects 0 l.bounds
