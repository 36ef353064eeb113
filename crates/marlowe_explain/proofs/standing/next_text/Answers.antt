use Rattle.std.proofs.Common.{subst}
use Rattle.marlowe_next.specs.declared.asked.Asked.{Asked}
use Rattle.marlowe_next.specs.Question.{reached_at}
use Rattle.marlowe_next.specs.Answer.{IsAnswerUpTo}
use Rattle.marlowe_explain.specs.Explained.{most_inputs}
use Rattle.std.specs.Prelude.{Some, Ok}
use Rattle.marlowe_explain.proofs.standing.next_text.Goals as goal

pub returns-in-Ok : goal.returns-in-Ok
returns-in-Ok c = subst (λ (q : Asked). IsAnswerUpTo (Some most_inputs) q (Ok (reached_at c.args.contract.now c.args.left.now)) c.in-Ok.text.items) c.asks_over-asked.ensures c.in-Ok.ensures.text
