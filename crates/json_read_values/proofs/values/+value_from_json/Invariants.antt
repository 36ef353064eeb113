use Rattle.std.proofs.Common.{◌+◌, ◌*◌}
use Rattle.serde_json.specs.Data.{depth}
use Rattle.json_read_values.proofs.values.+value_from_json.Given as goal

-- a value comes after its members
abbrev pub decreases-value_from_json : goal.decreases-value_from_json
decreases-value_from_json g l = 3 * depth (g.J.JsonValue.json l.json.now) + 2

abbrev pub decreases-observation_from_json : goal.decreases-observation_from_json
decreases-observation_from_json g l = 3 * depth (g.J.JsonValue.json l.json.now) + 2

abbrev pub decreases-values_at : goal.decreases-values_at
decreases-values_at g l = 3 * depth (g.J.JsonValue.json l.json.now) + 1

abbrev pub decreases-observations_at : goal.decreases-observations_at
decreases-observations_at g l = 3 * depth (g.J.JsonValue.json l.json.now) + 1

abbrev pub decreases-value_at : goal.decreases-value_at
decreases-value_at g l = 3 * depth (g.J.JsonValue.json l.json.now)

abbrev pub decreases-observation_at : goal.decreases-observation_at
decreases-observation_at g l = 3 * depth (g.J.JsonValue.json l.json.now)
