use Rattle.std.proofs.Common.{refl}
use Rattle.explain_transactions.proofs.ReductionLemmas.{stopped_here}
use Rattle.explain_transactions.proofs.reductions.reduce_once.Goals as goal

pub returns-in-Some : goal.returns-in-Some
returns-in-Some c = record { moved = stopped_here c.args.interval c.args.left.now c.args.left.now c.in-Some.stop refl refl c.in-Some.ensures; less = tt }
