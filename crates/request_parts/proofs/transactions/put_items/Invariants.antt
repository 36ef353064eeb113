use Rattle.std.proofs.Common.{◌≡◌, ◌++◌, List, drop}
use Rattle.contract.specs.declared.transaction.Transaction.{Transaction}
use Rattle.marlowe_run.specs.JsonReadNames.Parts.{Reading}
use Rattle.json_read_transactions.specs.ReadsTransactions.{item_readings}
use Rattle.json_read_transactions.specs.TakingSupport.{going_on}
use Rattle.json_tree.specs.View.{items_view}
use Rattle.request_parts.proofs.transactions.put_items.Given as goal

-- the items that are left go behind the transactions so far
abbrev pub invariant-loop-item : goal.invariant-loop-item
invariant-loop-item l =
    (more : List (Reading Transaction)) → going_on l.fn.transactions (item_readings (items_view l.items) ++ more) ≡ going_on l.transactions (item_readings (items_view (drop l.item-index l.items)) ++ more)
