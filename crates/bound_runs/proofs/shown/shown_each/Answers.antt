use Rattle.contract.specs.Tree.{contract_tree}
use Rattle.bound_runs.proofs.ShownLemmas.{loss_step}
use Rattle.bound_runs.proofs.shown.shown_each.Goals as goal

pub loop-loss-preserved : goal.loop-loss-preserved
loop-loss-preserved c =
    let v = c.loop-loss.invariant in
    let one = c.in_ok-one.ensures in
    let q = loss_step c.args.state.now (contract_tree c.args.contract.now) c.loop-loss.all c.push.new.self c.in_ok-one.one c.loop-loss.yielded c.in-Some.loss c.in_ok-push.ensures.added
    v.losses v.lost v.numbers one.loss one.lost one.numbers in
    record { losses = q.losses; lost = q.lost; numbers = q.numbers }
