use Rattle.std.proofs.Common.{◌≡◌, ◌++◌, drop}
use Rattle.ledger_kept.specs.LedgerLaws.Past.{created, created_by_all}
use Rattle.ledger_kept.specs.LedgerSpec.Replay.{past_of, world}
use Rattle.chain_holdings.specs.CreatedSupport.{unspent_among}
use Rattle.chain_holdings.proofs.unspent.unspent.Given as goal

abbrev pub invariant-loop-accepted : goal.invariant-loop-accepted
invariant-loop-accepted l =
    l.lent.items ++ unspent_among (past_of (world l.chain)) (created_by_all (drop l.accepted-index l.txs)) ≡ unspent_among (past_of (world l.chain)) (created (past_of (world l.chain)))
