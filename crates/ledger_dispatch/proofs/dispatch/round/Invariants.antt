use Rattle.std.proofs.Common.{◌≡◌, ◌++◌, length, take, drop}
use Rattle.ledger_views.specs.LedgerSpec.Replay.{world}
use Rattle.ledger_views.specs.LedgerSpec.Calls.{round_verdicts}
use Rattle.ledger_views.specs.LedgerKept.Kept.{IsIndexOf}
use Rattle.ledger_dispatch.specs.DispatchSupport.{with_places}
use Rattle.ledger_dispatch.proofs.dispatch.round.Given as goal

abbrev pub invariant-loop-i : goal.invariant-loop-i
invariant-loop-i l = record {
  tied : IsIndexOf l.index.present (with_places (world l.kept) l.places);
  settled : l.index.settled ≡ l.fn.index.settled;
  told : length l.places ≡ l.i;
  places :
      round_verdicts (world l.kept) (take l.count (world l.kept).replay.pending)
      ≡ l.places ++ round_verdicts (with_places (world l.kept) l.places) (drop l.i (take l.count (world l.kept).replay.pending));
}
