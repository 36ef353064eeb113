use Rattle.std.proofs.Common.{◌≡◌, ◌++◌, ◌+◌, ◌-◌, ◌≤◌, vec_len, vec_capacity, drop, length}
use Rattle.ledger_kept.specs.TallySupport.{entries_among}
use Rattle.ledger_kept.proofs.rounds.accept_among.Given as goal

abbrev pub invariant-loop-i : goal.invariant-loop-i
invariant-loop-i l = record {
  items : l.fn.places.items ++ entries_among l.pending l.verdicts ≡ l.places.items ++ entries_among (drop l.i l.pending) (drop l.i l.verdicts);
  room : vec_len l.places + (length l.verdicts - l.i) ≤ vec_capacity l.places;
}
