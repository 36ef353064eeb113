use Rattle.std.proofs.Common.{Bool, List, ◌+◌, take, map, sym, ap, ◌∙◌}
use Rattle.std.proofs.lemmas.List.{take_all}
use Rattle.alike_alarms.specs.Alike.{SeenAlarm}
use Rattle.analysis_lines.specs.declared.told.ToldAlarm.{ToldAlarm}
use Rattle.marlowe_analyse.specs.OnceSupport.{seen_told}
use Rattle.marlowe_analyse.proofs.OnceLemmas.{seen_more}
use Rattle.marlowe_analyse.proofs.once.seen_of.Goals as goal

pub loop-one-preserved : goal.loop-one-preserved
loop-one-preserved c =
    let one = c.one-item.result in
    let same = ap (λ (b : Bool). let s : SeenAlarm = (one.alarm, b) in s) c.is_some.ensures in
    seen_more c.args.told.now c.loop-one.one-index one _ c.loop-one.seen.items c.push.new.self.items c.loop-one-test.true c.one-item.is c.in_ok-push.ensures.items same c.loop-one.invariant

pub returns : goal.returns
returns c = c.loop-one.invariant ∙ ap (λ (ts : List ToldAlarm). map seen_told ts) (take_all c.loop-one.one-index c.args.told.now c.loop-one-test.false)
