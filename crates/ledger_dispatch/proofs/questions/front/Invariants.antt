use Rattle.std.proofs.Common.{◌≡◌, map, take}
use Rattle.ledger_views.specs.LedgerSpec.Replay.{world}
use Rattle.ledger_views.specs.LedgerSpec.Views.{with_found}
use Rattle.ledger_dispatch.proofs.questions.front.Given as goal

abbrev pub invariant-loop-i : goal.invariant-loop-i
invariant-loop-i l = l.jobs.items ≡ map (λ p. with_found (world l.kept) p.1) (take l.i (world l.kept).replay.pending)
