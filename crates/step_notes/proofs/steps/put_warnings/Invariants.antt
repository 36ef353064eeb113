use Rattle.std.proofs.Common.{◌≡◌, ◌++◌, drop, string_bytes}
use Rattle.step_notes.specs.StepLines.{warning_lines}
use Rattle.step_notes.proofs.steps.put_warnings.Given as goal

abbrev pub invariant-loop-warning : goal.invariant-loop-warning
invariant-loop-warning l = string_bytes l.out ++ warning_lines (drop l.warning-index l.warnings) ≡ string_bytes l.fn.out ++ warning_lines l.warnings
