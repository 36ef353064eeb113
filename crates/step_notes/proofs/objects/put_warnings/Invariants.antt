use Rattle.std.proofs.Common.{◌≡◌, ◌++◌, drop, string_bytes}
use Rattle.step_notes.specs.StepObjects.{warning_objects}
use Rattle.step_notes.proofs.objects.put_warnings.Given as goal

abbrev pub invariant-loop-index : goal.invariant-loop-index
invariant-loop-index l = string_bytes l.out ++ warning_objects l.index (drop l.index l.warnings) ≡ string_bytes l.fn.out ++ warning_objects 0 l.warnings
