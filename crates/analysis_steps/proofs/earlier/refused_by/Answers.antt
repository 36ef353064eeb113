use Rattle.std.proofs.Common.{ap}
use Rattle.contract.specs.Tree.{observation_tree, action_tree}
use Rattle.analysis_steps.proofs.EarlierLemmas.{refused_so}
use Rattle.analysis_steps.proofs.earlier.refused_by.Goals as goal

pub returns-in_ok-if_false-in-Notify : goal.returns-in_ok-if_false-in-Notify
returns-in_ok-if_false-in-Notify c =
    let o = c.in_ok-if_false-in-Notify.field-0 in
    refused_so c.args.known.now (action_tree c.args.case.now.action) (observation_tree c.in-Notify.observation) o.if_true o.if_false (ap action_tree c.in-Notify.is) c.in_ok-if_false-in-Notify.ensures.branches
