use Rattle.linear.specs.Bounded.{numbered}
use Rattle.symbols.specs.Joined.{AreShared}
use Rattle.symbols.proofs.join.put_shared.Given as goal

abbrev pub invariant-loop-at : goal.invariant-loop-at
invariant-loop-at l = AreShared l.count l.own (numbered 0 l.bounds) l.others l.fn.facts l.facts
