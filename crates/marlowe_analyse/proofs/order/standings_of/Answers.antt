use Rattle.std.proofs.Common.{List, [], ◌∷◌, ◌++◌, take, get_or, sym, subst}
use Rattle.std.specs.Prelude.{All}
use Rattle.std.proofs.lemmas.List.{take_more, take_all}
use Rattle.std.proofs.lemmas.List.Elements.{All-push}
use Rattle.analysis_spec.specs.declared.alarm.Alarm.{Alarm}
use Rattle.marlowe_analyse.specs.declared.order.Standing.{Standing}
use Rattle.marlowe_analyse.specs.OrderSupport.{HasKey, StandForAll}
use Rattle.marlowe_analyse.proofs.OrderLemmas.{one_stands}
use Rattle.marlowe_analyse.proofs.order.standings_of.Goals as goal

pub loop-alarm-preserved : goal.loop-alarm-preserved
loop-alarm-preserved c =
    let alarms = c.args.alarms.now in
    let i = c.loop-alarm.alarm-index in
    let r = c.alarm-item.result in
    let before = c.loop-alarm.standings.items in
    let one = one_stands (take i alarms) before (get_or alarms i r) _ c.alarm-item.is c.loop-alarm.invariant.all in
    record {
      all = subst (λ (zs : List Alarm). StandForAll zs c.push.new.self.items) (sym (take_more alarms i r c.loop-alarm-test.true))
          (subst (λ (ss : List Standing). StandForAll (take i alarms ++ get_or alarms i r ∷ []) ss) (sym c.in_ok-push.ensures.items) one);
      keys = subst (All HasKey) (sym c.in_ok-push.ensures.items) (All-push HasKey before _ c.loop-alarm.invariant.keys c.in_ok-key.ensures);
    }

pub returns-clause-all : goal.returns-clause-all
returns-clause-all c =
    subst (λ (zs : List Alarm). StandForAll zs c.loop-alarm.standings.items) (take_all c.loop-alarm.alarm-index c.args.alarms.now c.loop-alarm-test.false) c.loop-alarm.invariant.all
