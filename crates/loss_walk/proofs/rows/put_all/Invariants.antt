use Rattle.std.proofs.Common.{take}
use Rattle.loss_walk.specs.Floors.{FindsAll, LowersAll}
use Rattle.loss_walk.proofs.rows.put_all.Given as goal

abbrev pub invariant-loop-account : goal.invariant-loop-account
invariant-loop-account l = FindsAll (LowersAll l.known (take l.account-index l.names)) l.fn.rows l.rows
