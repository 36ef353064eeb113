use Rattle.contract.specs.Tree.{value_tree, action_tree, deposit}
use Rattle.std.proofs.Common.{true, ap, ◌≡◌}
use Rattle.analysis_steps.specs.Earlier.{AreEqual, TakesDeposit}
use Rattle.analysis_steps.proofs.EarlierLemmas.{if_ok, takes_so}
use Rattle.analysis_steps.proofs.earlier.takes.Goals as goal

pub returns-then-agree : goal.returns-then-agree
returns-then-agree c =
    let k = c.args.known.now in
    let d = c.in-Deposit in
    let v = value_tree c.args.value.now in
    let w = value_tree d.amount in
    let a = action_tree c.args.case.now.action in
    if_ok (λ yes. yes ≡ true → AreEqual k v w) (λ yes. yes ≡ true → TakesDeposit k a c.args.owner.now c.args.payer.now c.args.token.now v)
    (λ yes h e. takes_so k c.args.owner.now c.args.payer.now c.args.token.now v a d.of d.by d.other w (ap action_tree d.is) (c.agree.ensures c.if-agree.true) (h e)) c.equal.result c.equal.ensures
