use Rattle.contract.specs.Tree.{contract_tree}
use Rattle.replay.proofs.RunLemmas.{on_yes}
use Rattle.replay.proofs.TriesLemmas.{taking_tells, trying_leaves}
use Rattle.replay.proofs.tries.tells_at_action.Goals as goal

pub returns-then-taken : goal.returns-then-taken
returns-then-taken c =
    let h = c.comes_to-comes.ensures in
    let e = c.if-not-comes.false in
    on_yes c.tells_of_taking.result
    (taking_tells c.args.kind c.args.interval c.args.state.now (contract_tree c.args.contract.now) c.args.input.now c.args.index _ (h.waits e) (h.tried e) c.case-case.ensures.tree (rw c.if-taken.true at c.in-Ok.ensures))
    c.tells_of_taking.ensures

pub returns-in-Err : goal.returns-in-Err
returns-in-Err c = λ y.
    let h = c.comes_to-comes.ensures in
    let e = c.if-not-comes.false in
    trying_leaves c.args.kind c.args.interval c.args.state.now (contract_tree c.args.contract.now) c.args.input.now c.args.index _ c.in-Err.field-0 (h.waits e) (h.tried e) c.case-case.ensures.tree c.in-Err.ensures (c.is_leaving.ensures y)
