use Rattle.std.proofs.Common.{◌≡◌, ◌+◌, ◌*◌, drop}
use Rattle.serde_json.specs.Data.{depth}
use Rattle.json_stops.specs.Stops.{behind, first_unread}
use Rattle.json_stops.specs.StopsSupport.{AreRead, behind_fault}
use Rattle.json_stops.proofs.walk.+stop_within.Given as goal

-- a value comes after its parts
abbrev pub decreases-stop_within : goal.decreases-stop_within
decreases-stop_within g l = 3 * depth (g.J.JsonValue.json l.json.now) + 2

abbrev pub decreases-stop_in_form : goal.decreases-stop_in_form
decreases-stop_in_form g l = 3 * depth (g.J.JsonValue.json l.json.now) + 1

abbrev pub decreases-stop_in_fields : goal.decreases-stop_in_fields
decreases-stop_in_fields g l = 3 * depth (g.J.JsonValue.json l.json.now)

abbrev pub decreases-stop_in_list : goal.decreases-stop_in_list
decreases-stop_in_list g l = 3 * depth (g.J.JsonValue.json l.json.now)

abbrev pub decreases-stop_in_pair : goal.decreases-stop_in_pair
decreases-stop_in_pair g l = 3 * depth (g.J.JsonValue.json l.json.now)

-- the values so far are read
abbrev pub invariant-stop_in_fields-loop-field : goal.invariant-stop_in_fields-loop-field
invariant-stop_in_fields-loop-field g l =
    let d = g.J.JsonValue.json l.json in
    record {
      unread : first_unread (behind d l.fields) ≡ first_unread (behind d (drop l.field-index l.fields));
      fault : behind_fault d l.fields ≡ behind_fault d (drop l.field-index l.fields);
    }

-- the items so far are read
abbrev pub invariant-stop_in_list-loop-index : goal.invariant-stop_in_list-loop-index
invariant-stop_in_list-loop-index g l = AreRead g.J.JsonValue.json l.inner l.repeat l.items l.index
