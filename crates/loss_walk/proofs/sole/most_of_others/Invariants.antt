use Rattle.std.proofs.Common.{take}
use Rattle.loss_walk.specs.Others.{PaidSoFar}
use Rattle.loss_walk.proofs.sole.most_of_others.Given as goal

abbrev pub invariant-loop-range : goal.invariant-loop-range
invariant-loop-range l = PaidSoFar l.account (take l.range-index l.ranges) l.most
