use Rattle.contract.specs.Tree.{contract_tree}
use Rattle.request_reasons.specs.MarloweNext.Question.{reached_by}
use Rattle.request_answers.proofs.AskingLemmas.{next_prints, next_refused}
use Rattle.request_answers.proofs.asking.next_told.Goals as goal

pub returns-in-Ok : goal.returns-in-Ok
returns-in-Ok c =
    next_prints c.args.asked (reached_by (contract_tree c.args.contract.now) c.args.state.now c.args.transactions.now) c.in-Ok.line.items c.without_feed.result
    c.in-Ok.ensures.text c.without_feed.ensures

pub returns-in-Err : goal.returns-in-Err
returns-in-Err c =
    next_refused c.args.asked (reached_by (contract_tree c.args.contract.now) c.args.state.now c.args.transactions.now) c.in-Err.fault c.from.result
    c.in-Err.ensures.answer c.from.ensures
