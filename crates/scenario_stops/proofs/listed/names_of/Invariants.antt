use Rattle.std.proofs.Common.{◌≡◌, ◌++◌, map, drop}
use Rattle.serde_json.specs.View.{items_of}
use Rattle.scenario_stops.specs.Stops.{names_of}
use Rattle.scenario_stops.proofs.listed.names_of.Given as goal

-- those so far, and those of the items that are left
abbrev pub invariant-loop-item : goal.invariant-loop-item
invariant-loop-item g l =
    names_of (items_of (map g.J.JsonValue.json l.items)) ≡ map (λ name. name.now) l.names.items ++ names_of (items_of (map g.J.JsonValue.json (drop l.item-index l.items)))
