use Rattle.std.proofs.Common.{◌≡◌, ℕ, List, ◌++◌, Err, subst}
use Rattle.std.proofs.lemmas.Result.{err_from_is_err_and}
use Rattle.contract.specs.declared.transaction.Transaction.{Transaction}
use Rattle.json_read_names.specs.Parts.{Reading}
use Rattle.json_read_transactions.specs.ReadsTransactions.{readings}
use Rattle.json_read_transactions.specs.TakingSupport.{going_on}
use Rattle.json_read_transactions.proofs.TakingLemmas.{all_read, fault_read}
use Rattle.json_read_transactions.proofs.texts.read_transactions.Goals as goal

pub returns-in_err-put_text : goal.returns-in_err-put_text
returns-in_err-put_text c =
    let p = err_from_is_err_and c.from_residual.result c.from_residual.ensures.1 in
    let fault = c.in_err-put_text.field-0.0 in
    rw (p.1, p.2)
    (record {
      reading = λ n. fault_read c.args.texts.now c.loop-text.text-index c.loop-text.transactions c.loop-text.invariant c.text-item.result fault c.loop-text-test.true c.text-item.is
          (subst (λ (bytes : List ℕ). (more : List (Reading Transaction)) → going_on c.loop-text.transactions (readings bytes ++ more) ≡ Err fault) c.as_slice.ensures.value (c.in_err-put_text.ensures n));
    })

pub returns : goal.returns
returns c = record { reading = all_read c.args.texts.now c.loop-text.text-index c.loop-text.transactions c.loop-text.invariant c.loop-text-test.false }
