use Rattle.linear.specs.Ranged.{AreNarrowed}
use Rattle.linear.proofs.narrowing.narrow.Given as goal

abbrev pub invariant-loop-term : goal.invariant-loop-term
invariant-loop-term l = AreNarrowed l.fn.bounds l.bounds l.expression
