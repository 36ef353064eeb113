use Rattle.explain_tables.proofs.DepthLemmas.{LowBelow}
use Rattle.explain_tables.proofs.depths.high_case.Given as goal

-- what follows the cases so far is no higher than the room
abbrev pub invariant-loop-index : goal.invariant-loop-index
invariant-loop-index l = LowBelow l.room l.cases l.index
