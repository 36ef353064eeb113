use Rattle.std.proofs.Common.{◌≡◌, ◌*◌, ◌^◌, drop, pos, neg_ℤ, ◌≤ℤ◌, ◌+ℤ◌}
use Rattle.bundle.specs.Totals.{total_of}
use Rattle.bundle.proofs.total.total_of.Given as goal

abbrev pub invariant-loop-item : goal.invariant-loop-item
invariant-loop-item g l = record {
  sum : total_of g.A.Holds.held l.token l.items ≡ l.total +ℤ total_of g.A.Holds.held l.token (drop l.item-index l.items);
  low : neg_ℤ (pos (l.item-index * 2 ^ 127)) ≤ℤ l.total;
  high : l.total ≤ℤ pos (l.item-index * 2 ^ 127);
}
