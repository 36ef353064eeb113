use Rattle.std.proofs.Common.{take}
use Rattle.std.specs.Prelude.{All}
use Rattle.bound_runs.specs.Told.{HasNumber}
use Rattle.bound_runs.proofs.written.has_numbers.Given as goal

abbrev pub invariant-loop-input : goal.invariant-loop-input
invariant-loop-input l = All HasNumber (take l.input-index l.inputs)
