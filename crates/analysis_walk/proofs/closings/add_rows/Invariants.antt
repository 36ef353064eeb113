use Rattle.std.proofs.Common.{take}
use Rattle.analysis_walk.proofs.RowLemmas.{AreMade}
use Rattle.analysis_walk.proofs.closings.add_rows.Given as goal

abbrev pub invariant-loop-account : goal.invariant-loop-account
invariant-loop-account l = AreMade l.before (take l.account-index l.spans) l.fn.rows l.rows
