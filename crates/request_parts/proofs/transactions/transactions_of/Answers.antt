use Rattle.std.proofs.lemmas.Result.{err_from_is_err_and}
use Rattle.json_tree.specs.View.{view}
use Rattle.json_read_transactions.specs.ReadsTransactions.{value_readings}
use Rattle.request_parts.proofs.TakingLemmas.{all_taken, fault_taken}
use Rattle.request_parts.proofs.transactions.transactions_of.Goals as goal

pub returns-in_err-put_value : goal.returns-in_err-put_value
returns-in_err-put_value c =
    let p = err_from_is_err_and c.from_residual.result c.from_residual.ensures.1 in
    rw (p.1, p.2) (λ n. fault_taken (value_readings (view c.args.json.now)) _ c.in_err-put_value.field-0.0 c.new-transactions.ensures (c.in_err-put_value.ensures n))

pub returns : goal.returns
returns c = all_taken (value_readings (view c.args.json.now)) _ c.put_value.new.transactions c.new-transactions.ensures c.in_ok-put_value.ensures
