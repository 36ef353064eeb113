use Rattle.std.proofs.Common.{length}
use Rattle.coin_selection.proofs.sums.+sum.Given as goal

abbrev pub decreases-sum : goal.decreases-sum
decreases-sum g l = length l.items.now
