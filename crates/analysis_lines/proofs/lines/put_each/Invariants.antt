use Rattle.std.proofs.Common.{◌≡◌, ◌++◌, take}
use Rattle.std.specs.Prelude.{flat_map}
use Rattle.analysis_lines.specs.ToldLines.{line_of}
use Rattle.analysis_lines.specs.Lines.{alarm_lines}
use Rattle.analysis_lines.proofs.lines.put_each.Given as goal

abbrev pub invariant-loop-alarm : goal.invariant-loop-alarm
invariant-loop-alarm l = l.out.items ≡ l.fn.out.items ++ flat_map (λ t. alarm_lines l.runs (line_of t)) (take l.alarm-index l.alarms)
