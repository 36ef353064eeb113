use Rattle.std.proofs.lemmas.Result.{IfOk-weaker}
use Rattle.json_tree.specs.View.{view}
use Rattle.request_reasons.specs.PartsSupport.{place_of}
use Rattle.request_reasons.proofs.PartLemmas.{scenario_stop_told, no_scenario_stop_told}
use Rattle.request_reasons.proofs.parts.scenario_told.Goals as goal

pub returns-in-Some : goal.returns-in-Some
returns-in-Some c =
    let stops = rw c.in-Some.is at c.in_ok-found.ensures in
    IfOk-weaker c.place_told.result _ _
    (λ written told. scenario_stop_told (view c.args.json.now) (place_of c.in-Some.stop c.in-Some.part.now) written.items stops told)
    c.place_told.ensures

pub returns-in-None : goal.returns-in-None
returns-in-None c =
    let none = rw c.in-None.is at c.in_ok-found.ensures in
    no_scenario_stop_told (view c.args.json.now) c.new.result.items none c.new.ensures.items
