use Rattle.std.proofs.Common.{ap, ◌∙◌}
use Rattle.std.proofs.lemmas.Result.{IfOk-weaker}
use Rattle.json_tree.specs.View.{view}
use Rattle.request_reasons.specs.RequestParts.Answered.{traced_answer}
use Rattle.request_answers.proofs.ReasonLemmas.{outcomes_so}
use Rattle.request_answers.proofs.refusing.outcomes_answer.Goals as goal

pub returns : goal.returns
returns c =
    IfOk-weaker c.traced_answer.result _ _
    (λ line is. outcomes_so c.args.readable c.args.definitions.now (view c.args.body.now) c.args.id.now line.items c.args.lines.now c.args.fault c.reason_if-reason.result.items c.reason_if-reason.ensures
    (is ∙ ap (traced_answer c.args.id.now c.args.lines.now c.args.fault) c.as_slice.ensures.value))
    c.traced_answer.ensures
