use Rattle.std.proofs.Common.{◌≡◌, take}
use Rattle.states.specs.Start.{entries_of}
use Rattle.states.proofs.start.entries_of.Given as goal

abbrev pub invariant-loop-row : goal.invariant-loop-row
invariant-loop-row l = l.entries.items ≡ entries_of (take l.row-index l.accounts)
