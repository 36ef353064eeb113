use Rattle.std.proofs.Common.{take}
use Rattle.std.specs.List.{AllByRecursion}
use Rattle.loss_walk.specs.Floors.{IsToldBy}
use Rattle.loss_walk.proofs.KeptLemmas.{AreTold}
use Rattle.loss_walk.proofs.keeping.told.Given as goal

abbrev pub invariant-loop-account : goal.invariant-loop-account
invariant-loop-account l = record { told : AllByRecursion (IsToldBy l.party l.asked l.paid l.net) l.all; rows : AreTold l.party (take l.account-index l.account-items) l.all }
