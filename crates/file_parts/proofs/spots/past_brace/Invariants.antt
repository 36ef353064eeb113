use Rattle.std.proofs.Common.{◌≤◌}
use Rattle.file_parts.proofs.spots.past_brace.Given as goal

abbrev pub invariant-loop-index : goal.invariant-loop-index
invariant-loop-index l = l.end ≤ l.index
