use Rattle.linear.proofs.ChainLemmas.{IsWalkIn}
use Rattle.linear.proofs.chains.fill.Given as goal

abbrev pub invariant-loop : goal.invariant-loop
invariant-loop l = IsWalkIn l.factor l.left l.i l.other_factor l.right l.j l.out l.count
