use Rattle.std.proofs.Common.{◌≡◌, ◌++◌, take}
use Rattle.analysis_steps.specs.Chosen.{claims_of}
use Rattle.analysis_steps.proofs.choices.put_bounds.Given as goal

abbrev pub invariant-loop-bound : goal.invariant-loop-bound
invariant-loop-bound l = l.claims.items ≡ l.fn.claims.items ++ claims_of l.by (take l.bound-index l.bounds)
