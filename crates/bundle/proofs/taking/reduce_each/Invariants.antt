use Rattle.std.proofs.Common.{◌≤◌, length, take, drop}
use Rattle.std.specs.FinMap.{from_sorted}
use Rattle.bundle.proofs.LessLemmas.{IsLessening}
use Rattle.bundle.proofs.WalkLemmas.{BeforeFirst}
use Rattle.bundle.proofs.taking.reduce_each.Given as goal

-- what is left so far, where zeros stand for nothing
abbrev pub invariant-loop-entry : goal.invariant-loop-entry
invariant-loop-entry l = record {
  within : l.at ≤ length l.entries;
  lessening : IsLessening (from_sorted l.fn.entries) l.less l.entries (drop l.entry-index l.less);
  before : BeforeFirst (drop l.entry-index l.less) (take l.at l.entries);
}
