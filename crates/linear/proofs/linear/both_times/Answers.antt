use Rattle.std.proofs.Common.{rules, FitsSigned}
use Rattle.std.specs.Int.{w128}
use Rattle.std.proofs.lemmas.Int.{to_z-of_z}
use Rattle.linear.proofs.linear.both_times.Goals as goal

pub returns : goal.returns
returns c =
    let fa : FitsSigned w128 c.in_ok-a.a = search rules in
    let fb : FitsSigned w128 c.in_ok-b.b = search rules in
    let a = rw (to_z-of_z w128 c.args.factor c.ranges.factor, to_z-of_z w128 c.args.number c.ranges.number) at c.in_ok-a.ensures in
    let b = rw (to_z-of_z w128 c.args.other_factor c.ranges.other_factor, to_z-of_z w128 c.args.other c.ranges.other) at c.in_ok-b.ensures in
    rw (to_z-of_z w128 c.in_ok-a.a fa, to_z-of_z w128 c.in_ok-b.b fb, a, b) at c.sum.ensures
