use Rattle.std.proofs.Common.{◌≡◌, ◌++◌, drop, string_bytes}
use Rattle.step_notes.specs.StepLines.{more_bounds}
use Rattle.step_notes.proofs.words.put_others.Given as goal

abbrev pub invariant-loop-bound : goal.invariant-loop-bound
invariant-loop-bound l = string_bytes l.out ++ more_bounds (drop l.bound-index l.bounds) ≡ string_bytes l.fn.out ++ more_bounds l.bounds
