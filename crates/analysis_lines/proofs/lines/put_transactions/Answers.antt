use Rattle.std.proofs.Common.{◌≡◌, true, sym, subst}
use Rattle.std.proofs.lemmas.List.Elements.{All-get_or}
use Rattle.contract_json.specs.WrittenInput.{transaction_fits}
use Rattle.analysis_lines.specs.Lines.{transaction_line}
use Rattle.places.proofs.PieceLaws.{piece_more}
use Rattle.analysis_lines.proofs.lines.put_transactions.Goals as goal

pub loop-transaction-preserved : goal.loop-transaction-preserved
loop-transaction-preserved c =
    piece_more transaction_line c.args.run.now c.loop-transaction.transaction-index c.transaction-item.result c.args.out.now.items c.loop-transaction.out.items c.put_transaction.new.out.items c.loop-transaction-test.true c.transaction-item.is c.loop-transaction.invariant c.in_ok-put_transaction.ensures

pub put_transaction-requires : goal.put_transaction-requires
put_transaction-requires c =
    subst (λ t. transaction_fits t ≡ true) (sym c.transaction-item.is) (All-get_or (λ t. transaction_fits t ≡ true) c.args.run.now c.loop-transaction.transaction-index c.transaction-item.result c.loop-transaction-test.true c.requires)
