use Rattle.std.proofs.Common.{◌≡◌, ◌-◌, length, take}
use Rattle.ledger_kept.specs.LedgerSpec.Replay.{world}
use Rattle.chain_holdings.proofs.accepted.accepted.Given as goal

abbrev pub invariant-loop-tx : goal.invariant-loop-tx
invariant-loop-tx l = l.txs.items ≡ take (length l.txs.items) (world l.kept).replay.accepted

abbrev pub decreases-loop-tx : goal.decreases-loop-tx
decreases-loop-tx l = length (world l.kept).replay.accepted - length l.txs.items
