use Rattle.std.proofs.Common.{take}
use Rattle.analysis_walk.specs.Rows.{AreBounded}
use Rattle.analysis_walk.proofs.RowLemmas.{AreNamed}
use Rattle.analysis_walk.proofs.closings.ranges_of.Given as goal

-- the rows so far have their ranges
abbrev pub invariant-loop-account : goal.invariant-loop-account
invariant-loop-account l = record { bounded : AreBounded l.rows l.count l.ranges; named : AreNamed (take l.account-index l.account-items) l.ranges }
