use Rattle.std.proofs.Common.{arith}
use Rattle.contract.specs.Tree.{value_tree, action_tree}
use Rattle.analysis_walk.specs.Knowledge.{actions_before}
use Rattle.analysis_steps.proofs.EarlierLemmas.{one_of, deposit_taken}
use Rattle.analysis_steps.proofs.earlier.is_deposit_taken.Goals as goal

pub returns-then-taken : goal.returns-then-taken
returns-then-taken c = λ _.
    let ks = c.args.earlier.now in
    let case = c.case-item.result in
    deposit_taken c.args.known.now (actions_before ks) (action_tree case.action) c.args.owner.now c.args.payer.now c.args.token.now (value_tree c.args.value.now) (c.in_ok-taken.ensures c.if-taken.true)
    (one_of ks c.last_of-case-items.result.now c.loop-case.case-index case c.last_of-case-items.ensures (omega arith) c.case-item.is)
