use Rattle.contract.specs.Tree.{contract_tree}
use Rattle.bound_runs.proofs.ShownLemmas.{range_step}
use Rattle.bound_runs.proofs.shown.shown_ranges.Goals as goal

pub loop-range-preserved : goal.loop-range-preserved
loop-range-preserved c =
    let v = c.loop-range.invariant in
    let one = c.in_ok-one.ensures in
    let q = range_step c.args.state.now (contract_tree c.args.contract.now) c.loop-range.all c.push.new.self c.in_ok-one.one c.loop-range.yielded c.in-Some.range c.in_ok-push.ensures.added
    v.ranges v.reached v.numbers one.range one.reached one.numbers in
    record { ranges = q.ranges; reached = q.reached; numbers = q.numbers }
