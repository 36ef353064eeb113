use Rattle.std.proofs.Common.{◌≡◌, map, take}
use Rattle.ledger_kept.specs.LedgerSpec.Replay.{world}
use Rattle.chain_holdings.specs.After.{shown_at}
use Rattle.chain_holdings.specs.StillSupport.{IsStill}
use Rattle.chain_holdings.proofs.ends.ends_after.Given as goal

abbrev pub invariant-loop-start : goal.invariant-loop-start
invariant-loop-start l = record {
  still : IsStill l.fn.chain l.chain;
  ends : l.ends.items ≡ map (shown_at (world l.fn.chain)) (take l.start-index l.starts);
}
