use Rattle.std.proofs.Common.{◌+◌, ◌*◌}
use Rattle.serde_json.specs.Data.{depth}
use Rattle.json_forms.specs.Forms.{more_of}
use Rattle.scenario_stops.specs.There.{There}
use Rattle.scenario_stops.specs.Parts.{start}
use Rattle.scenario_stops.specs.StopsSupport.{NamesAre, KeysAreRead, ItemsAreRead}
use Rattle.scenario_stops.proofs.walk.+stop_within.Given as goal

-- a value comes after its parts
abbrev pub decreases-stop_within : goal.decreases-stop_within
decreases-stop_within g l = 4 * depth (g.J.JsonValue.json l.json.now) + 3

abbrev pub decreases-stop_in_part : goal.decreases-stop_in_part
decreases-stop_in_part g l = 4 * depth (g.J.JsonValue.json l.json.now) + 2

abbrev pub decreases-stop_in_shape : goal.decreases-stop_in_shape
decreases-stop_in_shape g l = 4 * depth (g.J.JsonValue.json l.json.now) + 1

abbrev pub decreases-stop_in_fields : goal.decreases-stop_in_fields
decreases-stop_in_fields g l = 4 * depth (g.J.JsonValue.json l.json.now)

abbrev pub decreases-stop_in_list : goal.decreases-stop_in_list
decreases-stop_in_list g l = 4 * depth (g.J.JsonValue.json l.json.now)

-- the values so far are read, beside whatever has the names of the beginning
abbrev pub invariant-stop_in_fields-loop-field : goal.invariant-stop_in_fields-loop-field
invariant-stop_in_fields-loop-field g l =
    (t : There) → NamesAre l.fn.names (start l.part t) → KeysAreRead (g.J.JsonValue.json l.json) l.fields (more_of l.form) l.field-index l.names (start l.part t)

-- the items so far are
abbrev pub invariant-stop_in_list-loop-index : goal.invariant-stop_in_list-loop-index
invariant-stop_in_list-loop-index g l =
    (t : There) → NamesAre l.fn.names (start l.fn.part t) → ItemsAreRead g.J.JsonValue.json l.inner l.items l.index l.names (start l.fn.part t)
