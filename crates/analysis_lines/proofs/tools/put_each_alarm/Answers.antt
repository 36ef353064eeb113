use Rattle.std.proofs.Common.{refl}
use Rattle.json_write_contracts.proofs.AddsLaws.{wrote}
use Rattle.json_write_contracts.proofs.ListedLaws.{listed, closed}
use Rattle.analysis_lines.specs.ToldLines.{line_of, LineFits}
use Rattle.analysis_lines.specs.Tools.{alarm_json}
use Rattle.std.proofs.Common.{sym, subst}
use Rattle.std.proofs.lemmas.List.Elements.{All-get_or}
use Rattle.analysis_lines.proofs.tools.put_each_alarm.Goals as goal

pub loop-alarm-preserved : goal.loop-alarm-preserved
loop-alarm-preserved c =
    listed (λ t. alarm_json c.args.runs (line_of t)) c.args.alarms.now c.loop-alarm.alarm-index c.alarm-item.result c.begin_array.new.self c.loop-alarm.out c.put_alarm.new.out c.loop-alarm-test.true c.alarm-item.is c.loop-alarm.invariant c.in_ok-put_alarm.ensures

pub returns : goal.returns
returns c =
    closed (λ t. alarm_json c.args.runs (line_of t)) c.args.alarms.now c.args.alarms.now c.loop-alarm.alarm-index c.args.out.now c.begin_array.new.self c.loop-alarm.out c.end_array.new.self refl c.loop-alarm-test.false (wrote c.in_ok-begin_array.ensures)
    c.loop-alarm.invariant (wrote c.in_ok-end_array.ensures)

pub put_alarm-requires : goal.put_alarm-requires
put_alarm-requires c = subst LineFits (sym c.alarm-item.is) (All-get_or LineFits c.args.alarms.now c.loop-alarm.alarm-index c.alarm-item.result c.loop-alarm-test.true c.requires)
