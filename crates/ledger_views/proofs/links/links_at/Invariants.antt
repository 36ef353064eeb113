use Rattle.std.proofs.Common.{◌≡◌, Some, take, map}
use Rattle.ledger_kept.specs.LedgerSpec.Replay.{world}
use Rattle.ledger_kept.specs.ChainIndex.Laws.{link_at}
use Rattle.ledger_views.proofs.links.links_at.Given as goal

abbrev pub invariant-loop-step : goal.invariant-loop-step
invariant-loop-step l = map (λ x. Some x) l.links.items ≡ map (link_at (world l.kept).replay.accepted) (take l.step-index l.steps)
