use Rattle.std.proofs.Common.{◌-◌, ◌≤◌, length}
use Rattle.collections.proofs.Halving.{AllSmaller, AllGreater}
use Rattle.collections.proofs.entries.search.Given as goal

-- the keys before `low` are smaller, and those from `high` on are greater
abbrev pub invariant-loop-low : goal.invariant-loop-low
invariant-loop-low g l = record {
  order : l.low ≤ l.high;
  within : l.high ≤ length l.entries;
  smaller : AllSmaller g.K.Ord.cmp (g.Q.Probe.sought l.key) l.entries l.low;
  greater : AllGreater g.K.Ord.cmp (g.Q.Probe.sought l.key) l.entries l.high;
}

abbrev pub decreases-loop-low : goal.decreases-loop-low
decreases-loop-low g l = l.high - l.low
