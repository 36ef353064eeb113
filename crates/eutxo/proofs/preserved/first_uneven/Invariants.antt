use Rattle.std.proofs.Common.{◌≡◌, ◌≤ℤ◌, ◌*◌, ◌^◌, pos, neg_ℤ, drop}
use Rattle.eutxo.specs.ChangesSupport.{uneven}
use Rattle.eutxo.proofs.preserved.first_uneven.Given as goal

-- the rest, begun with the sum so far, answers as the whole
abbrev pub invariant-loop-at : goal.invariant-loop-at
invariant-loop-at l = record {
  rest : uneven (pos 0) l.changes ≡ uneven l.total (drop l.at l.changes);
  low : neg_ℤ (pos (l.at * 2 ^ 127)) ≤ℤ l.total;
  high : l.total ≤ℤ pos (l.at * 2 ^ 127);
}
