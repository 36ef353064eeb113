use Rattle.std.proofs.Common.{ℤ, All}
use Rattle.analysis_steps.specs.Chosen.{IsFromTo, IsPassed}
use Rattle.analysis_steps.proofs.choices.narrowed.Given as goal

abbrev pub invariant-loop-case : goal.invariant-loop-case
invariant-loop-case l = (n : ℤ) → All (IsPassed l.id n) l.cases → IsFromTo l.fn.range n → IsFromTo l.left n
