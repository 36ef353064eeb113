use Rattle.std.proofs.Common.{take}
use Rattle.bundle.specs.WalksSupport.{AllBefore}
use Rattle.bundle.proofs.walk.skip_before.Given as goal

abbrev pub invariant-loop-at : goal.invariant-loop-at
invariant-loop-at l = AllBefore l.token (take l.at l.entries)
