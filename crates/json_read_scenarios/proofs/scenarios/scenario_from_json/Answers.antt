use Rattle.std.proofs.Common.{rules, ◌≡◌, Ok}
use Rattle.json_read_names.specs.Parts.{Reading}
use Rattle.plans.specs.declared.scenario.Scenario.{Scenario}
use Rattle.json_read_scenarios.specs.ReadsScenario.{scenario}
use Rattle.json_read_scenarios.proofs.ScenarioLaws.{scenario_names}
use Rattle.json_read_scenarios.proofs.scenarios.scenario_from_json.Goals as goal
use mir.Syntax.{w64}
use mir.Val.{to_z, of_z}

-- what was read is the scenario that the value stands for
pub returns-clause-names : goal.returns-clause-names
returns-clause-names g c =
    let s : Scenario = record { tick = to_z w64 (of_z w64 c.in_ok-tick.tick); genesis = c.in_ok-genesis.genesis; contracts = c.into_items.result; threads = c.into_items-2.result; plans = c.into_items-3.result } in
    let read : scenario (g.J.JsonValue.json c.args.json.now) ≡ Ok s = search rules in
    scenario_names (g.J.JsonValue.json c.args.json.now) s read
