use Rattle.std.proofs.Common.{length}
use Rattle.replay.proofs.placed.+comes.Given as goal

abbrev pub decreases-comes : goal.decreases-comes
decreases-comes l = length l.place.now
