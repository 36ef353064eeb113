use Rattle.std.proofs.Common.{sym, subst, IfOk}
use Rattle.contract.specs.declared.tree.Action.{Action}
use Rattle.contract.specs.Tree.{observation_tree, action_tree}
use Rattle.analysis_walk.specs.Knowledge.{actions_before}
use Rattle.loss_walk.specs.Brings.{Takes}
use Rattle.loss_walk.proofs.BringLemmas.{chooses, notifies}
use Rattle.loss_walk.proofs.brings.take_action.Goals as goal

pub returns-in-Deposit : goal.returns-in-Deposit
returns-in-Deposit c = subst (λ (a : Action). IfOk c.take_deposit.result (Takes c.args.net c.args.known (actions_before c.args.earlier.now) (action_tree a))) (sym c.in-Deposit.is) c.take_deposit.ensures

pub returns-in_ok-known-in-Choice : goal.returns-in_ok-known-in-Choice
returns-in_ok-known-in-Choice c =
    let x = c.in_ok-known-in-Choice.field-0 in
    subst (λ (a : Action). Takes c.args.net c.args.known (actions_before c.args.earlier.now) (action_tree a) x.known) (sym c.in-Choice.is)
    (chooses c.args.net c.args.known (actions_before c.args.earlier.now) c.in-Choice.id c.in-Choice.bounds x c.in_ok-known-in-Choice.ensures)

pub returns-in_ok-known-in-Notify : goal.returns-in_ok-known-in-Notify
returns-in_ok-known-in-Notify c =
    let x = c.in_ok-known-in-Notify.field-0 in
    subst (λ (a : Action). Takes c.args.net c.args.known (actions_before c.args.earlier.now) (action_tree a) x.known) (sym c.in-Notify.is)
    (notifies c.args.net c.args.known (actions_before c.args.earlier.now) (observation_tree c.in-Notify.observation) x c.in_ok-known-in-Notify.ensures)
