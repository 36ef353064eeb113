use Rattle.std.proofs.Common.{refl}
use Rattle.json_write_contracts.proofs.AddsLaws.{wrote}
use Rattle.json_write_contracts.proofs.ListedLaws.{listed, closed}
use Rattle.contract_json.specs.WrittenInput.{transaction_json, transaction_fits}
use Rattle.std.proofs.Common.{◌≡◌, true, sym, subst}
use Rattle.std.proofs.lemmas.List.Elements.{All-get_or}
use Rattle.analysis_lines.proofs.tools.put_transactions.Goals as goal

pub loop-transaction-preserved : goal.loop-transaction-preserved
loop-transaction-preserved c =
    listed transaction_json c.args.run.now c.loop-transaction.transaction-index c.transaction-item.result c.begin_array.new.self c.loop-transaction.out c.put_transaction.new.out c.loop-transaction-test.true c.transaction-item.is c.loop-transaction.invariant c.in_ok-put_transaction.ensures

pub returns : goal.returns
returns c =
    closed transaction_json c.args.run.now c.args.run.now c.loop-transaction.transaction-index c.args.out.now c.begin_array.new.self c.loop-transaction.out c.end_array.new.self refl c.loop-transaction-test.false (wrote c.in_ok-begin_array.ensures)
    c.loop-transaction.invariant (wrote c.in_ok-end_array.ensures)

pub put_transaction-requires : goal.put_transaction-requires
put_transaction-requires c =
    subst (λ t. transaction_fits t ≡ true) (sym c.transaction-item.is) (All-get_or (λ t. transaction_fits t ≡ true) c.args.run.now c.loop-transaction.transaction-index c.transaction-item.result c.loop-transaction-test.true c.requires)
