use Rattle.std.proofs.Common.{◌≡◌, ◌++◌, drop}
use Rattle.ledger_kept.specs.LedgerLaws.Past.{with_references}
use Rattle.ledger_kept.specs.LedgerSpec.Replay.{past_of, world}
use Rattle.chain_holdings.specs.CreatedSupport.{reference_by, unspent_among}
use Rattle.chain_holdings.proofs.unspent.put_unspent.Given as goal

abbrev pub invariant-loop-index : goal.invariant-loop-index
invariant-loop-index l =
    l.lent.items ++ unspent_among (past_of (world l.chain)) (with_references (reference_by l.maker) l.index (drop l.index l.outputs))
    ≡ l.fn.lent.items ++ unspent_among (past_of (world l.chain)) (with_references (reference_by l.maker) 0 l.outputs)
