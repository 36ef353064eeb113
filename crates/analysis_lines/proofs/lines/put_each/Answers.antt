use Rattle.std.proofs.Common.{sym, subst}
use Rattle.std.proofs.lemmas.List.Elements.{All-get_or}
use Rattle.analysis_lines.specs.ToldLines.{line_of, LineFits}
use Rattle.analysis_lines.specs.Lines.{alarm_lines}
use Rattle.places.proofs.PieceLaws.{piece_more}
use Rattle.analysis_lines.proofs.lines.put_each.Goals as goal

pub loop-alarm-preserved : goal.loop-alarm-preserved
loop-alarm-preserved c =
    piece_more (λ t. alarm_lines c.args.runs (line_of t)) c.args.alarms.now c.loop-alarm.alarm-index c.alarm-item.result c.args.out.now.items c.loop-alarm.out.items c.put_alarm.new.out.items c.loop-alarm-test.true c.alarm-item.is c.loop-alarm.invariant c.in_ok-put_alarm.ensures

pub put_alarm-requires : goal.put_alarm-requires
put_alarm-requires c = subst LineFits (sym c.alarm-item.is) (All-get_or LineFits c.args.alarms.now c.loop-alarm.alarm-index c.alarm-item.result c.loop-alarm-test.true c.requires)
