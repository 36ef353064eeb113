use Rattle.std.proofs.Common.{pos, arith, rules, FitsSigned}
use Rattle.std.specs.Int.{w128}
use Rattle.std.proofs.lemmas.Int.{to_z-of_z}
use Rattle.contract.specs.Names.declared.bound.Bound.{Bound}
use Rattle.semantics.specs.Applying.{in_bound}
use Rattle.analysis_steps.proofs.ChosenLemmas.{outside_at}
use Rattle.analysis_steps.proofs.choices.narrowed_by.Goals as goal

pub loop-bound-preserved : goal.loop-bound-preserved
loop-bound-preserved c = λ n h k.
    let d : Bound = record { from = pos 0; to = pos 0 } in
    let low : FitsSigned w128 c.loop-bound.left.from = search rules in
    let high : FitsSigned w128 c.loop-bound.left.to = search rules in
    let lower : FitsSigned w128 c.raised_by_one.result = search rules in
    let upper : FitsSigned w128 c.lowered_by_one.result = search rules in
    let o = outside_at (in_bound n) c.args.bounds.now c.loop-bound.bound-index d h (omega arith) in
    let q = c.loop-bound.invariant n h k in
    let a = rw (to_z-of_z w128 c.loop-bound.left.from low) at c.raised_by_one.ensures in
    let b = rw (to_z-of_z w128 c.loop-bound.left.to high) at c.lowered_by_one.ensures in
    rw (to_z-of_z w128 c.raised_by_one.result lower, to_z-of_z w128 c.lowered_by_one.result upper) (a n o q.0, b n o q.1)
