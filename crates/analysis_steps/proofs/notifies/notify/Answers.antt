use Rattle.contract.specs.Tree.{observation_tree}
use Rattle.analysis_walk.specs.Knowledge.{actions_before}
use Rattle.analysis_steps.proofs.EarlierLemmas.{notifies_false, notifies_never, notifies_so}
use Rattle.analysis_steps.proofs.notifies.notify.Goals as goal

pub returns-then-says_false : goal.returns-then-says_false
returns-then-says_false c = notifies_false c.args.known (actions_before c.args.earlier.now) (observation_tree c.args.observation.now) _ (c.says_false.ensures c.if-says_false.true)

pub returns-then-taken : goal.returns-then-taken
returns-then-taken c =
    let x = c.in_ok-branches.branches in
    notifies_never c.args.known (actions_before c.args.earlier.now) (observation_tree c.args.observation.now) x.kinds x.if_true x.if_false c.in_ok-branches.ensures (c.in_ok-taken.ensures c.if-taken.true)

pub returns : goal.returns
returns c =
    let x = c.in_ok-branches.branches in
    notifies_so c.args.known (actions_before c.args.earlier.now) (observation_tree c.args.observation.now) x.kinds x.if_true x.if_false c.in_ok-branches.ensures
