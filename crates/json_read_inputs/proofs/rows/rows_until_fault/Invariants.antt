use Rattle.std.proofs.Common.{◌≡◌, [], drop, map}
use Rattle.serde_json.specs.View.{items_of}
use Rattle.json_read_inputs.specs.Rows.{number_by, until_fault}
use Rattle.json_read_inputs.proofs.rows.rows_until_fault.Given as goal

-- those behind the rows so far are those of all
abbrev pub invariant-loop-item : goal.invariant-loop-item
invariant-loop-item g l =
    until_fault (g.K.RowKey.reading (number_by l.numbers)) l.rows.items (items_of (map g.J.JsonValue.json (drop l.item-index l.items))) ≡ until_fault (g.K.RowKey.reading (number_by l.numbers)) [] (items_of (map g.J.JsonValue.json l.items))
