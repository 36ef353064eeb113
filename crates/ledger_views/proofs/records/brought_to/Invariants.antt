use Rattle.std.proofs.Common.{◌≡◌, ◌≤◌, drop}
use Rattle.ledger_kept.specs.LedgerLaws.Threads.{brought_to}
use Rattle.ledger_views.proofs.records.brought_to.Given as goal

abbrev pub invariant-loop-x : goal.invariant-loop-x
invariant-loop-x l = record {
  brought : brought_to l.reference l.inputs l.datums ≡ brought_to l.reference (drop l.x-index l.inputs) (drop l.steps l.datums);
  few : l.steps ≤ l.x-index;
}
