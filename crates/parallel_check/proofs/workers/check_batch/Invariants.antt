use Rattle.std.proofs.Common.{◌≡◌, ◌++◌, ◌+◌, length}
use Rattle.parallel_check.specs.Jobs.{checks_of}
use Rattle.parallel_check.proofs.workers.check_batch.Given as goal

abbrev pub invariant-loop : goal.invariant-loop
invariant-loop g l =
    (length l.fn.jobs ≡ l.counter + length l.jobs)
    × (checks_of g.V.Validator.judges l.fn.jobs
    ≡ l.checks ++ checks_of g.V.Validator.judges l.jobs)
