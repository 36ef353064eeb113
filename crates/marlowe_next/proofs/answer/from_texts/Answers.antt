use Rattle.std.proofs.Common.{List, refl, subst}
use Rattle.std.specs.Prelude.{map}
use Rattle.contract.specs.Tree.{contract_tree}
use Rattle.json_read_transactions.specs.declared.fault.ReadFault.TheVariants as reading
use Rattle.json_read_transactions.specs.ReadsTransactions.{transactions_of}
use Rattle.marlowe_run.specs.MarloweRefusals.TraceFaults.{texts_fault}
use Rattle.contract.specs.declared.transaction.Transaction.{Transaction}
use Rattle.marlowe_next.specs.Question.{reached_by}
use Rattle.marlowe_next.specs.AnswerSupport.{Answers}
use Rattle.marlowe_next.proofs.AnswerLemmas.{goes_on, goes_badly}
use Rattle.marlowe_next.proofs.answer.from_texts.Goals as goal

pub returns-in-Ok : goal.returns-in-Ok
returns-in-Ok c =
    let after = map (λ text. text.items) c.args.after.now in
    rw c.beside_dropped.ensures
    (goes_on c.args.asked texts_fault (λ ts. reached_by (contract_tree c.args.whole.now) c.args.start.now ts) (transactions_of after) c.in-Ok.transactions c.from_transactions-text.result c.in-Ok.ensures.reading
    (subst (λ (ts : List Transaction). Answers c.args.asked (reached_by (contract_tree c.args.whole.now) c.args.start.now ts) c.from_transactions-text.result) c.as_slice.ensures c.from_transactions-text.ensures))

pub returns-in-Err : goal.returns-in-Err
returns-in-Err c =
    let after = map (λ text. text.items) c.args.after.now in
    goes_badly c.args.asked reading.Memory texts_fault (λ ts. reached_by (contract_tree c.args.whole.now) c.args.start.now ts) (transactions_of after) c.in-Err.fault c.from.result refl c.in-Err.ensures.reading c.from.ensures
