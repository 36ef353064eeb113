use Rattle.std.proofs.Common.{sym, subst}
use Rattle.std.proofs.lemmas.Result.{IfOk-weaker}
use Rattle.scenario_stops.specs.There.{nothing}
use Rattle.scenario_stops.specs.Stops.{IsScenarioStop}
use Rattle.scenario_stops.specs.StopsSupport.{along}
use Rattle.scenario_stops.proofs.StopLemmas.{scenario_stops}
use Rattle.scenario_stops.proofs.walk.first_stop.Goals as goal

pub returns-in-Some : goal.returns-in-Some
returns-in-Some g c =
    let json = g.J.JsonValue.json in
    let d = json c.args.json.now in
    let stop = rw c.in-Some.is at c.in_ok-found.ensures in
    IfOk-weaker c.joined.result _ _ (λ found e. subst (IsScenarioStop d) (sym e) (scenario_stops d (along json c.in-Some.found) (stop nothing c.new-names.ensures))) c.joined.ensures

pub returns : goal.returns
returns g c = let fine = rw c.in-None.is at c.in_ok-found.ensures in (fine nothing c.new-names.ensures).0
