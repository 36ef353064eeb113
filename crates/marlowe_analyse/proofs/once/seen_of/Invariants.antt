use Rattle.std.proofs.Common.{◌≡◌, map, take}
use Rattle.alike_alarms.specs.AlikeSupport.{seen_of}
use Rattle.marlowe_analyse.specs.OnceSupport.{seen_told}
use Rattle.marlowe_analyse.proofs.once.seen_of.Given as goal

abbrev pub invariant-loop-one : goal.invariant-loop-one
invariant-loop-one l = map seen_of l.seen.items ≡ map seen_told (take l.one-index l.told)
