use Rattle.linear.proofs.WalkLemmas.{IsWalk}
use Rattle.linear.proofs.terms.combined.Given as goal

abbrev pub invariant-loop : goal.invariant-loop
invariant-loop l = IsWalk l.factor l.left l.i l.other_factor l.right l.j l.out.items
