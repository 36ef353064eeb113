use Rattle.std.proofs.Common.{◌≡◌, [], drop, map}
use Rattle.serde_json.specs.View.{items_of}
use Rattle.json_read_scenarios.specs.Names.{one_by_one}
use Rattle.json_read_scenarios.proofs.name_list.named_at.Given as goal

-- those behind the items so far are those of all
abbrev pub invariant-loop-value : goal.invariant-loop-value
invariant-loop-value g l =
    one_by_one (g.R.NamedReader.reading l.reader) l.list (items_of (map g.J.JsonValue.json (drop l.value-index l.values)))
    ≡ one_by_one (g.R.NamedReader.reading l.reader) [] (items_of (map g.J.JsonValue.json l.values))
