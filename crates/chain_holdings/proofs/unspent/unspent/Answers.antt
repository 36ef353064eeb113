use Rattle.ledger_kept.specs.LedgerSpec.Replay.{past_of, world}
use Rattle.chain_holdings.proofs.CreatedLemmas.{unspent_end}
use Rattle.chain_holdings.proofs.unspent.unspent.Goals as goal

pub returns : goal.returns
returns c = unspent_end (past_of (world c.args.chain.now)) c.args.txs.now c.loop-accepted.accepted-index c.loop-accepted.lent.items c.loop-accepted-test.false c.loop-accepted.invariant
