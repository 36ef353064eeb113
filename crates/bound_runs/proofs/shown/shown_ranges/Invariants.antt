use Rattle.std.proofs.Common.{◌≡◌}
use Rattle.std.specs.Prelude.{All}
use Rattle.contract.specs.Tree.{contract_tree}
use Rattle.bound_runs.specs.Told.{ranges_of, AreReached, RangeHasNumbers}
use Rattle.bound_runs.proofs.shown.shown_ranges.Given as goal

-- those so far
abbrev pub invariant-loop-range : goal.invariant-loop-range
invariant-loop-range l = record {
  ranges : ranges_of l.all ≡ l.yielded;
  reached : AreReached l.state (contract_tree l.contract) l.all;
  numbers : All RangeHasNumbers l.all;
}
