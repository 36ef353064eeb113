use Rattle.std.proofs.Common.{◌*ℤ◌}
use Rattle.linear.specs.Linear.{number_at}
use Rattle.linear.specs.Bounded.{numbered, IsFromBy}
use Rattle.linear.proofs.bounds.least_by_fact.Given as goal

abbrev pub invariant-loop-term : goal.invariant-loop-term
invariant-loop-term l = IsFromBy (numbered 0 l.bounds) l.fact (λ r. l.factor *ℤ number_at r l.expression) l.best
