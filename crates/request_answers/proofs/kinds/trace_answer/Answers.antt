use Rattle.std.proofs.lemmas.Result.{IfOk-weaker}
use Rattle.json_tree.specs.View.{view}
use Rattle.request_answers.specs.Commands.{trace_told}
use Rattle.request_answers.proofs.ReasonLemmas.{traces_so}
use Rattle.request_answers.proofs.kinds.trace_answer.Goals as goal

pub returns-in-Ok : goal.returns-in-Ok
returns-in-Ok c =
    let body = view c.args.body.now in
    IfOk-weaker c.outcomes_answer.result _ _
    (λ line h. traces_so c.args.readable c.args.definitions.now body c.args.id.now line.items (trace_told c.args.readable.text_numbers c.args.definitions.now body) c.in-Ok.told c.as_slice.result.now c.in-Ok.ensures c.as_slice.ensures.value h)
    c.outcomes_answer.ensures
