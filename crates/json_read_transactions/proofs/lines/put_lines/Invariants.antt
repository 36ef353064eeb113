use Rattle.std.proofs.Common.{◌≡◌, ◌++◌, ◌≤◌, List, length, map}
use Rattle.contract.specs.declared.transaction.Transaction.{Transaction}
use Rattle.json_read_names.specs.Parts.{Reading}
use Rattle.json_read_names.specs.ReadsText.{of_text}
use Rattle.json_read_inputs.specs.ReadsInput.{transaction}
use Rattle.json_read_transactions.specs.ReadsTransactions.{lines}
use Rattle.json_read_transactions.specs.TakingSupport.{going_on}
use Rattle.json_read_transactions.proofs.lines.put_lines.Given as goal

-- the lines of what is left go behind the transactions so far
abbrev pub invariant-lines : goal.invariant-lines
invariant-lines l = record {
  shorter : length l.rest ≤ length l.fn.text;
  taken : (more : List (Reading Transaction)) → going_on l.fn.transactions (map (of_text transaction) (lines l.fn.text) ++ more) ≡ going_on l.transactions (map (of_text transaction) (lines l.rest) ++ more);
}

abbrev pub decreases-lines : goal.decreases-lines
decreases-lines l = length l.rest
