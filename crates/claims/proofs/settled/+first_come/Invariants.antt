use Rattle.std.proofs.Common.{length}
use Rattle.claims.proofs.settled.+first_come.Given as goal

abbrev pub decreases-first_come : goal.decreases-first_come
decreases-first_come g l = length l.claims.now
