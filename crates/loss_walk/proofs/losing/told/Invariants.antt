use Rattle.std.proofs.Common.{take}
use Rattle.loss_walk.specs.Floors.{AreFloors}
use Rattle.loss_walk.proofs.FloorLemmas.{AreNamed}
use Rattle.loss_walk.proofs.losing.told.Given as goal

abbrev pub invariant-loop-account : goal.invariant-loop-account
invariant-loop-account l = record { floors : AreFloors l.rows l.all; named : AreNamed l.rows (take l.account-index l.account-items) l.all }
