use Rattle.std.proofs.Common.{take}
use Rattle.bound_runs.specs.Told.{HasNumbers}
use Rattle.bound_runs.proofs.written.has_all_numbers.Given as goal

abbrev pub invariant-loop-transaction : goal.invariant-loop-transaction
invariant-loop-transaction l = HasNumbers (take l.transaction-index l.run)
