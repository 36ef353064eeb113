use Rattle.std.proofs.Common.{take, map}
use Rattle.json_write_contracts.specs.Tokens.{Adds}
use Rattle.json_write_contracts.proofs.ListedLaws.{front}
use Rattle.analysis_lines.specs.ToldLines.{line_of}
use Rattle.analysis_lines.specs.Tools.{alarm_json}
use Rattle.analysis_lines.proofs.tools.put_each_alarm.Given as goal

-- the items so far are written
abbrev pub invariant-loop-alarm : goal.invariant-loop-alarm
invariant-loop-alarm l = Adds l.initial.out l.out (front (map (λ t. alarm_json l.runs (line_of t)) (take l.alarm-index l.alarms)))
