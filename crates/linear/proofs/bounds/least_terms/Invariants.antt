use Rattle.linear.specs.Bounded.{numbered}
use Rattle.linear.proofs.QueryLemmas.{IsBounding}
use Rattle.linear.proofs.bounds.least_terms.Given as goal

abbrev pub invariant-loop : goal.invariant-loop
invariant-loop l = IsBounding (numbered 0 l.bounds) l.factor l.left l.i l.other_factor l.right l.j l.total
