use Rattle.std.proofs.Common.{length}
use Rattle.coin_selection.proofs.limits.+spent.Given as goal

abbrev pub decreases-spent : goal.decreases-spent
decreases-spent l = length l.owns.now
