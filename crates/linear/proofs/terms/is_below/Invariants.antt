use Rattle.std.proofs.Common.{take}
use Rattle.linear.specs.Linear.{TermsBelow}
use Rattle.linear.proofs.terms.is_below.Given as goal

abbrev pub invariant-loop-term : goal.invariant-loop-term
invariant-loop-term l = TermsBelow l.count (take l.term-index l.terms)
