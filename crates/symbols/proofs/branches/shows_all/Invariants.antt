use Rattle.std.proofs.Common.{take}
use Rattle.symbols.specs.Branches.{ShowsAll}
use Rattle.symbols.proofs.branches.shows_all.Given as goal

abbrev pub invariant-loop-fact : goal.invariant-loop-fact
invariant-loop-fact l = ShowsAll l.here (take l.fact-index l.facts)
