use Rattle.std.proofs.Common.{rules, FitsSigned}
use Rattle.std.specs.Int.{w128}
use Rattle.std.proofs.lemmas.Int.{to_z-of_z}
use Rattle.linear.proofs.WalkLemmas.{step_is}
use Rattle.linear.proofs.terms.step.Goals as goal

pub returns : goal.returns
returns c =
    let fa : FitsSigned w128 c.in_ok-a.a = search rules in
    let fb : FitsSigned w128 c.in_ok-b.b = search rules in
    let fc : FitsSigned w128 c.in_ok-coefficient.coefficient = search rules in
    let a = rw (to_z-of_z w128 c.args.factor c.ranges.factor) at c.in_ok-a.ensures in
    let b = rw (to_z-of_z w128 c.args.other_factor c.ranges.other_factor) at c.in_ok-b.ensures in
    let e = rw (to_z-of_z w128 c.in_ok-a.a fa, to_z-of_z w128 c.in_ok-b.b fb) at c.in_ok-coefficient.ensures in
    rw (to_z-of_z w128 c.in_ok-coefficient.coefficient fc)
    (step_is c.args.factor c.args.left.now c.args.left_at c.args.other_factor c.args.right.now c.args.right_at c.args.symbol c.in_ok-a.a c.in_ok-b.b c.in_ok-coefficient.coefficient c.in_ok-a.k c.in_ok-b.l a b e)
