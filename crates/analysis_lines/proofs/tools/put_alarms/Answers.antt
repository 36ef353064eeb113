use Rattle.std.proofs.Common.{List, map, subst}
use Rattle.std.proofs.lemmas.Result.{on_ok_weaker}
use Rattle.json_write_contracts.specs.Tokens.{Puts}
use Rattle.analysis_lines.specs.declared.told.ToldAlarm.{ToldAlarm}
use Rattle.analysis_lines.specs.ToldLines.{line_of}
use Rattle.analysis_lines.specs.Tools.{alarms_json}
use Rattle.analysis_lines.proofs.LinesLemmas.{alarms_put}
use Rattle.analysis_lines.proofs.tools.put_alarms.Goals as goal

pub returns : goal.returns
returns c =
    let a = c.args.out.now in
    let b = c.put_each_alarm.new.out in
    on_ok_weaker c.put_each_alarm.result
    (λ h. subst (λ (ts : List ToldAlarm). Puts a b (alarms_json c.args.runs (map line_of ts))) c.deref.ensures.value (alarms_put c.args.runs a b _ h)) c.put_each_alarm.ensures
