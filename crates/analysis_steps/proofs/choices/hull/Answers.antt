use Rattle.std.proofs.Common.{pos, arith}
use Rattle.contract.specs.Names.declared.bound.Bound.{Bound}
use Rattle.analysis_steps.proofs.ChosenLemmas.{hull_none, hull_on, hull_all}
use Rattle.analysis_steps.proofs.choices.hull.Goals as goal

pub loop-bound-init : goal.loop-bound-init
loop-bound-init c = hull_none c.args.bounds.now

pub loop-bound-preserved : goal.loop-bound-preserved
loop-bound-preserved c =
    let d : Bound = record { from = pos 0; to = pos 0 } in
    hull_on c.args.bounds.now c.loop-bound.bound-index d c.loop-bound.range c.wider-range.result (omega arith) c.loop-bound.invariant c.wider-range.ensures

pub returns : goal.returns
returns c = hull_all c.args.bounds.now c.loop-bound.bound-index c.loop-bound.range (omega arith) c.loop-bound.invariant
