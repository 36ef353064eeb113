use Rattle.std.proofs.Common.{rules, FitsSigned, to_z}
use Rattle.std.specs.Int.{w128}
use Rattle.std.proofs.lemmas.Int.{to_z-of_z}
use Rattle.loss_walk.proofs.SoleLemmas.{more_paid, all_paid}
use Rattle.loss_walk.proofs.sole.most_of_others.Goals as goal

pub loop-range-preserved : goal.loop-range-preserved
loop-range-preserved c =
    let fits : FitsSigned w128 c.in-Some.more = search rules in
    rw (to_z-of_z w128 c.in-Some.more fits)
    (more_paid c.args.account.now c.args.ranges.now c.loop-range.range-index c.range-item.result (to_z w128 c.loop-range.most-bits) c.in-Some.more c.loop-range-test.true c.range-item.is c.loop-range.invariant
    (rw c.in-Some.is at c.with_range.ensures))

pub returns : goal.returns
returns c = all_paid c.args.account.now c.args.ranges.now c.loop-range.range-index (to_z w128 c.loop-range.most-bits) c.loop-range-test.false c.loop-range.invariant
