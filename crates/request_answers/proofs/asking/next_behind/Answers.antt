use Rattle.std.proofs.Common.{refl}
use Rattle.contract.specs.Tree.{contract_tree}
use Rattle.json_tree.specs.View.{view}
use Rattle.request_reasons.specs.MarloweNext.declared.asked.Asked.{Asked}
use Rattle.request_reasons.specs.MarloweNext.Question.{reached_by}
use Rattle.request_answers.specs.Asking.{NextPrints, asked_at}
use Rattle.request_answers.proofs.AskingLemmas.{tells_on}
use Rattle.request_answers.proofs.asking.next_behind.Goals as goal

pub returns-in-Ok : goal.returns-in-Ok
returns-in-Ok c =
    tells_on (λ (q : Asked). NextPrints q (reached_by (contract_tree c.args.contract.now) c.args.state.now c.args.transactions.now)) (asked_at c.args.readable (view c.args.body.now)) c.in-Ok.asked c.in-Ok.asked c.next_told.result c.next_told.result
    c.in-Ok.ensures refl refl c.next_told.ensures
