use Rattle.std.proofs.Common.{rules, FitsSigned}
use Rattle.std.specs.Int.{w128}
use Rattle.std.proofs.lemmas.Int.{to_z-of_z}
use Rattle.linear.proofs.ChainLemmas.{filled, walk_in_on}
use Rattle.linear.proofs.chains.fill.Goals as goal

pub returns-in-None : goal.returns-in-None
returns-in-None c =
    let h = filled _ _ _ _ _ _ _ _ c.loop.invariant c.in-None.ensures.0 c.in-None.ensures.1 in
    rw (to_z-of_z w128 c.args.factor c.ranges.factor, to_z-of_z w128 c.args.other_factor c.ranges.other_factor) at h

pub loop-preserved : goal.loop-preserved
loop-preserved c =
    let f : FitsSigned w128 c.in_ok-coefficient-in-Some.coefficient = search rules in
    let o = rw (to_z-of_z w128 c.in_ok-coefficient-in-Some.coefficient f) at c.in_ok-count-in-Some.ensures.put in
    walk_in_on _ _ _ _ _ _ _ _ _ _ _ (c.in_ok-coefficient-in-Some.coefficient, c.in_ok-coefficient-in-Some.k, c.in_ok-coefficient-in-Some.l) c.loop.invariant c.in-Some.ensures c.in_ok-coefficient-in-Some.ensures
    c.put_at.ensures.few o
