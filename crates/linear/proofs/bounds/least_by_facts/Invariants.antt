use Rattle.std.proofs.Common.{◌*ℤ◌}
use Rattle.linear.specs.Linear.{number_at}
use Rattle.linear.specs.Bounded.{numbered, IsFromAll}
use Rattle.linear.proofs.bounds.least_by_facts.Given as goal

abbrev pub invariant-loop-newer : goal.invariant-loop-newer
invariant-loop-newer l = IsFromAll (numbered 0 l.bounds) l.facts (λ r. l.factor *ℤ number_at r l.expression) l.best
