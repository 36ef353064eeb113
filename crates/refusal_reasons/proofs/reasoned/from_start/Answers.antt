use Rattle.std.proofs.Common.{ℕ, List, []}
use Rattle.contract.specs.Tree.{contract_tree}
use Rattle.marlowe_explain.specs.Semantics.Walk.{standing}
use Rattle.explanations.specs.JsonReadNames.ReadsText.{of_text}
use Rattle.marlowe_explain.specs.JsonReadInputs.ReadsInput.{transaction}
use Rattle.explanations.specs.JsonForms.declared.sort.Sort.TheVariants as sorts
use Rattle.marlowe_explain.specs.MarloweRefusals.Faults.{transaction_fault}
use Rattle.marlowe_explain.specs.MarloweRun.Run.{transaction_text}
use Rattle.refusal_reasons.specs.Reasons as reasons
use Rattle.refusal_reasons.proofs.ReasonedLemmas.{look_read, look_told, reasoned_by, reasoned_here}
use Rattle.refusal_reasons.proofs.reasoned.from_start.Goals as goal

pub returns-in-Read : goal.returns-in-Read
returns-in-Read c =
    let t = c.args.transaction in
    let w = c.args.spelling in
    let start = c.args.start.now in
    let whole = contract_tree c.args.whole.now in
    let is = look_read (of_text transaction t.text.now) (λ (written : List ℕ). reasons.TellsFlat w t sorts.Transaction written) c.in_ok-transaction.field-0 c.in-Read.transaction c.in-Read.is c.in_ok-transaction.ensures in
    reasoned_by (of_text transaction t.text.now) transaction_fault (λ tx. transaction_text start whole tx) (λ (written : List ℕ). reasons.TellsFlat w t sorts.Transaction written) (λ tx (written : List ℕ). reasons.TellsIfRefused w whole [] (standing start whole) tx written)
    c.in-Read.transaction c.run_on-reasoned.result c.beside_dropped.result is c.run_on-reasoned.ensures c.beside_dropped.ensures

pub returns-in-Told : goal.returns-in-Told
returns-in-Told c =
    let t = c.args.transaction in
    let w = c.args.spelling in
    let start = c.args.start.now in
    let whole = contract_tree c.args.whole.now in
    let it = look_told (of_text transaction t.text.now) (λ (written : List ℕ). reasons.TellsFlat w t sorts.Transaction written) c.in_ok-transaction.field-0 c.in-Told.fault c.in-Told.written c.in-Told.is c.in_ok-transaction.ensures in
    reasoned_here (of_text transaction t.text.now) transaction_fault (λ tx. transaction_text start whole tx) (λ (written : List ℕ). reasons.TellsFlat w t sorts.Transaction written) (λ tx (written : List ℕ). reasons.TellsIfRefused w whole [] (standing start whole) tx written)
    c.in-Told.fault c.of_transaction.result c.in-Told.written c.if_written.result c.of_transaction.ensures it.0 it.1 c.if_written.ensures
