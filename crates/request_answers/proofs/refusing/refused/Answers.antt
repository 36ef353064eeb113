use Rattle.std.proofs.Common.{ap, ◌∙◌}
use Rattle.std.proofs.lemmas.Result.{IfOk-weaker}
use Rattle.json_tree.specs.View.{view}
use Rattle.request_reasons.specs.RequestParts.Answered.{reasoned_answer}
use Rattle.request_answers.proofs.ReasonLemmas.{refused_so}
use Rattle.request_answers.proofs.refusing.refused.Goals as goal

pub returns : goal.returns
returns c =
    IfOk-weaker c.reasoned_answer.result _ _
    (λ line is. refused_so c.args.readable c.args.definitions.now c.args.kind (view c.args.body.now) c.args.id.now line.items c.args.refusal c.reason_of-reason.result.items c.reason_of-reason.ensures
    (is ∙ ap (reasoned_answer c.args.id.now c.args.refusal) c.as_slice.ensures.value))
    c.reasoned_answer.ensures
