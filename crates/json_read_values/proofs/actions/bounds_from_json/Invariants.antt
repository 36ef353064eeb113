use Rattle.std.proofs.Common.{◌≡◌, drop, map}
use Rattle.serde_json.specs.View.{items_of}
use Rattle.json_read_names.specs.Parts.{all_items}
use Rattle.json_read_names.specs.ReadsNames.{bound}
use Rattle.json_read_names.proofs.ListLaws.{with_front}
use Rattle.json_read_values.proofs.actions.bounds_from_json.Given as goal

-- those so far and those of what is left are those of all
abbrev pub invariant-loop-item : goal.invariant-loop-item
invariant-loop-item g l =
    with_front l.bounds (all_items bound (items_of (map g.J.JsonValue.json (drop l.item-index l.items)))) ≡ all_items bound (items_of (map g.J.JsonValue.json l.items))
