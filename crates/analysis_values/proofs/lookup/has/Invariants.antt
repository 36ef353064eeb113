use Rattle.std.proofs.Common.{◌≡◌, drop}
use Rattle.std.specs.FinMap.Entries.{find}
use Rattle.analysis_values.proofs.lookup.has.Given as goal

abbrev pub invariant-loop-entry : goal.invariant-loop-entry
invariant-loop-entry g l = find g.K.Ord.cmp (g.Q.Probe.sought l.key) (drop l.entry-index l.entries) ≡ find g.K.Ord.cmp (g.Q.Probe.sought l.key) l.entries
