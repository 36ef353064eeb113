use Rattle.std.proofs.Common.{rules, FitsSigned}
use Rattle.std.specs.Int.{w128}
use Rattle.std.proofs.lemmas.Int.{to_z-of_z}
use Rattle.linear.proofs.WalkLemmas.{walked, walk_on}
use Rattle.linear.proofs.terms.combined.Goals as goal

pub returns-in-None : goal.returns-in-None
returns-in-None c =
    let h = walked _ _ _ _ _ _ _ c.loop.invariant c.in-None.ensures.0 c.in-None.ensures.1 in
    rw (to_z-of_z w128 c.args.factor c.ranges.factor, to_z-of_z w128 c.args.other_factor c.ranges.other_factor) at h

pub loop-preserved : goal.loop-preserved
loop-preserved c =
    let f : FitsSigned w128 c.in-Some-step.coefficient = search rules in
    let o = rw (to_z-of_z w128 c.in-Some-step.coefficient f) at (c.in_ok-put-in-Some-step.ensures c.if-not-branch.false) in
    walk_on _ _ _ _ _ _ _ _ _ (c.in-Some-step.coefficient, c.in-Some-step.k, c.in-Some-step.l) c.loop.invariant c.in-Some.ensures c.in-Some-step.ensures o
