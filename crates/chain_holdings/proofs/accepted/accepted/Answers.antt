use Rattle.std.proofs.Common.{◌≡◌, length, arith}
use Rattle.ledger_kept.specs.LedgerSpec.Replay.{world}
use Rattle.chain_holdings.proofs.TallyLemmas.{accepted_next, accepted_end}
use Rattle.chain_holdings.proofs.accepted.accepted.Goals as goal

pub loop-tx-preserved : goal.loop-tx-preserved
loop-tx-preserved c =
    let long : c.len.result ≡ length c.loop-tx.txs.items = omega (arith, c.len.ensures, c.loop-tx.txs.ok.0) in
    accepted_next (world c.args.kept.now).replay.accepted c.loop-tx.txs.items c.push.new.self.items c.in-Some.tx.now c.len.result c.loop-tx.invariant long c.in-Some.ensures c.in_ok-push.ensures.items

pub returns : goal.returns
returns c =
    let long : c.len.result ≡ length c.loop-tx.txs.items = omega (arith, c.len.ensures, c.loop-tx.txs.ok.0) in
    accepted_end (world c.args.kept.now).replay.accepted c.loop-tx.txs.items c.len.result c.loop-tx.invariant long c.in_default.ensures
