use Rattle.contract.specs.Tree.{value_tree}
use Rattle.analysis_walk.specs.Conclusions.{DepositsSo}
use Rattle.analysis_walk.specs.Knowledge.{actions_before}
use Rattle.analysis_values.specs.Known.{IsDescribed}
use Rattle.analysis_steps.specs.Earlier.{Tries, PutsIn}
use Rattle.analysis_steps.proofs.EarlierLemmas.{if_ok, tries_so, puts_so}
use Rattle.analysis_steps.proofs.deposits.deposit.Goals as goal

pub returns-then-taken : goal.returns-then-taken
returns-then-taken c =
    let k = c.args.known in
    let es = actions_before c.args.earlier.now in
    let p = c.args.owner.now in
    let q = c.args.payer.now in
    let t = c.args.token.now in
    let v = value_tree c.args.value.now in
    if_ok (Tries k v) (DepositsSo IsDescribed k es p q t v) (λ x h. tries_so k es p q t v x h (c.in_ok-taken.ensures c.if-taken.true)) c.tried.result c.tried.ensures

pub returns-else-taken : goal.returns-else-taken
returns-else-taken c =
    let k = c.args.known in
    let es = actions_before c.args.earlier.now in
    let p = c.args.owner.now in
    let q = c.args.payer.now in
    let t = c.args.token.now in
    let v = value_tree c.args.value.now in
    if_ok (PutsIn k p t v) (DepositsSo IsDescribed k es p q t v) (λ x h. puts_so k es p q t v x h) c.put_in.result c.put_in.ensures
