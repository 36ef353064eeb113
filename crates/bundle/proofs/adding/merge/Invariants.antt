use Rattle.std.proofs.Common.{◌≤◌, ◌++◌, length, take, drop}
use Rattle.std.specs.FinMap.{from_sorted}
use Rattle.bundle.proofs.MergeLemmas.{IsMerging}
use Rattle.bundle.proofs.WalkLemmas.{BeforeFirst}
use Rattle.bundle.proofs.adding.merge.Given as goal

-- what was put and what is left to put are the sum so far
abbrev pub invariant-loop-entry : goal.invariant-loop-entry
invariant-loop-entry l = record {
  within : l.at ≤ length l.held;
  merging : IsMerging (from_sorted l.held) l.more (l.sum.items ++ drop l.at l.held) (drop l.entry-index l.more);
  sum_before : BeforeFirst (drop l.entry-index l.more) l.sum.items;
  before : BeforeFirst (drop l.entry-index l.more) (take l.at l.held);
}
