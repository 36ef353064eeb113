use Rattle.std.proofs.Common.{drop}
use Rattle.marlowe_analyse.proofs.UnreachedLemmas.{KeysSoFar}
use Rattle.marlowe_analyse.proofs.unreached.keys_of.Given as goal

abbrev pub invariant-loop-spot : goal.invariant-loop-spot
invariant-loop-spot l = KeysSoFar l.spots l.last (drop l.spot-index (drop 1 l.spots)) l.told
