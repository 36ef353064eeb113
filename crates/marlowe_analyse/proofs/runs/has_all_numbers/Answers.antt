use Rattle.std.proofs.Common.{◌≡◌, true, subst}
use Rattle.std.proofs.lemmas.List.{take_all}
use Rattle.std.proofs.lemmas.List.Elements.{All-more}
use Rattle.contract.specs.declared.transaction.Transaction.{Transaction}
use Rattle.marlowe_run.specs.ContractJson.WrittenInput.{transaction_fits}
use Rattle.analysis_lines.specs.ToldLines.{RunFits}
use Rattle.marlowe_analyse.proofs.runs.has_all_numbers.Goals as goal

pub loop-transaction-preserved : goal.loop-transaction-preserved
loop-transaction-preserved c =
    let P : Transaction → Type 0 = λ t. transaction_fits t ≡ true in
    All-more P c.args.run.now c.loop-transaction.transaction-index c.transaction-item.result c.loop-transaction-test.true c.loop-transaction.invariant
    (subst P c.transaction-item.is (rw c.as_slice.ensures at (c.has_numbers-written.ensures c.if-not-written.false)))

pub returns : goal.returns
returns c = λ _. subst RunFits (take_all c.loop-transaction.transaction-index c.args.run.now c.loop-transaction-test.false) c.loop-transaction.invariant
