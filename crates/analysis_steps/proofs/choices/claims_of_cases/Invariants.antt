use Rattle.std.proofs.Common.{ℤ, All}
use Rattle.analysis_steps.specs.Chosen.{IsPassed, IsUnclaimed}
use Rattle.analysis_steps.proofs.choices.claims_of_cases.Given as goal

abbrev pub invariant-loop-case : goal.invariant-loop-case
invariant-loop-case l = (n : ℤ) → All (IsPassed l.id n) l.cases → IsUnclaimed n l.claims.items
