use Rattle.std.proofs.Common.{length}
use Rattle.reached_bounds.proofs.played.+play_on.Given as goal

abbrev pub decreases-play_on : goal.decreases-play_on
decreases-play_on l = length l.run.now
