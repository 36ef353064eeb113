use Rattle.std.specs.Int.{w128}
use Rattle.std.proofs.lemmas.Int.{to_z-of_z}
use Rattle.linear.proofs.bounds.least_by_term.Goals as goal

pub returns : goal.returns
returns c = rw (to_z-of_z w128 c.args.factor c.ranges.factor) at c.least_without.ensures
