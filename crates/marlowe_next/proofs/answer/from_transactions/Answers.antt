use Rattle.contract.specs.Tree.{contract_tree}
use Rattle.marlowe_run.specs.Semantics.Walk.{standing}
use Rattle.marlowe_next.proofs.AnswerLemmas.{leads_on, leads_badly, first_refused}
use Rattle.marlowe_next.proofs.answer.from_transactions.Goals as goal

pub returns-in-Ok : goal.returns-in-Ok
returns-in-Ok c =
    let left = c.in-Ok.left in
    rw c.beside_dropped.ensures
    (leads_on c.args.asked (contract_tree c.args.whole.now) c.args.start.now c.args.transactions.now left.path (standing left.state (contract_tree left.contract.now)) c.from_left-text.result c.in-Ok.ensures.answer c.in-Ok.ensures.path
    c.from_left-text.ensures)

pub returns-in-Err : goal.returns-in-Err
returns-in-Err c = leads_badly c.args.asked (contract_tree c.args.whole.now) c.args.start.now c.args.transactions.now c.in-Err.refused c.fault_of.result c.in-Err.ensures.answer c.fault_of.ensures

pub fault_of-requires : goal.fault_of-requires
fault_of-requires c = λ n. first_refused (standing c.args.start.now (contract_tree c.args.whole.now)) c.args.transactions.now c.in-Err.refused (c.in-Err.ensures.answer n)
