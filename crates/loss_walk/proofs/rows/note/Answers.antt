use Rattle.loss_walk.proofs.FloorLemmas.{nothing_noted}
use Rattle.loss_walk.proofs.rows.note.Goals as goal

pub returns-then-not-comes : goal.returns-then-not-comes
returns-then-not-comes c = nothing_noted c.args.rows.now
