use Rattle.std.proofs.Common.{◌≡◌, [], drop, map}
use Rattle.std.specs.Prelude.{flat_map}
use Rattle.json_read_transactions.specs.ReadsTransactions.{readings}
use Rattle.json_read_transactions.specs.TakingSupport.{going_on}
use Rattle.json_read_transactions.proofs.texts.read_transactions.Given as goal

-- the texts that are left go behind the transactions so far
abbrev pub invariant-loop-text : goal.invariant-loop-text
invariant-loop-text l = going_on [] (flat_map readings (map (λ text. text.items) l.texts)) ≡ going_on l.transactions (flat_map readings (map (λ text. text.items) (drop l.text-index l.texts)))
