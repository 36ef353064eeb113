use Rattle.std.proofs.Common.{◌≡◌, [], drop}
use Rattle.play_holdings.specs.Holdings.{AllAbove}
use Rattle.play_holdings.specs.SumsSupport.{with_all}
use Rattle.play_holdings.proofs.SumLemmas.{AreWhole}
use Rattle.play_holdings.proofs.sums.sum_up.Given as goal

-- what was summed, with what is left behind it, is the whole
abbrev pub invariant-loop-row : goal.invariant-loop-row
invariant-loop-row l = record {
  put : with_all l.sums.items (drop l.row-index l.rows) ≡ with_all [] l.rows;
  whole : AreWhole l.rows l.sums.items (drop l.row-index l.rows);
  above : AllAbove l.sums.items;
}
