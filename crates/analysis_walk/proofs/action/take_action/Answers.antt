use Rattle.std.proofs.Common.{sym, subst, IfOk}
use Rattle.contract.specs.declared.tree.Action.{Action}
use Rattle.contract.specs.Tree.{action_tree}
use Rattle.analysis_walk.specs.Knowledge.{actions_before, TakesSo}
use Rattle.analysis_walk.proofs.action.take_action.Goals as goal

pub returns-in-Deposit : goal.returns-in-Deposit
returns-in-Deposit g c =
    subst (λ (a : Action). IfOk c.deposit.result (TakesSo g.K.Knowledge.describes c.args.known (actions_before c.args.earlier.now) (action_tree a))) (sym c.in-Deposit.is) c.deposit.ensures

pub returns-in-Notify : goal.returns-in-Notify
returns-in-Notify g c =
    subst (λ (a : Action). IfOk c.notify.result (TakesSo g.K.Knowledge.describes c.args.known (actions_before c.args.earlier.now) (action_tree a))) (sym c.in-Notify.is) c.notify.ensures
