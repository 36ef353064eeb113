use Rattle.std.specs.Int.{w128}
use Rattle.std.proofs.lemmas.Int.{to_z-of_z}
use Rattle.symbols.proofs.HeldLemmas.{cancels_by}
use Rattle.symbols.proofs.apart.cancels.Goals as goal

pub returns-in-Some : goal.returns-in-Some
returns-in-Some c =
    let s = rw (c.in-Some.is, to_z-of_z w128 c.args.factor c.ranges.factor) at c.in_ok-rest.ensures in
    λ h. cancels_by c.args.expression.now c.args.other.now c.in-Some.rest c.args.factor s (c.is_zero.ensures h)
