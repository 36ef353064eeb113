use Rattle.std.proofs.Common.{take, map}
use Rattle.json_write_contracts.specs.Tokens.{Adds}
use Rattle.json_write_contracts.proofs.ListedLaws.{front}
use Rattle.analysis_lines.specs.Tools.{range_json}
use Rattle.analysis_lines.proofs.tools.put_each_range.Given as goal

-- the items so far are written
abbrev pub invariant-loop-range : goal.invariant-loop-range
invariant-loop-range l = Adds l.initial.out l.out (front (map (range_json l.runs) (take l.range-index l.ranges)))
