use Rattle.std.proofs.Common.{◌≡◌, ℤ, false}
use Rattle.std.specs.List.{list_any}
use Rattle.semantics.specs.Applying.{in_bound}
use Rattle.analysis_steps.specs.Chosen.{IsFromTo}
use Rattle.analysis_steps.proofs.choices.narrowed_by.Given as goal

abbrev pub invariant-loop-bound : goal.invariant-loop-bound
invariant-loop-bound l = (n : ℤ) → list_any (in_bound n) l.bounds ≡ false → IsFromTo l.fn.range n → IsFromTo l.left n
