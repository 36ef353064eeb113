use Rattle.std.proofs.Common.{◌≡◌, take, map}
use Rattle.serde_json.specs.View.{view as value_view, members_view as entries_view}
use Rattle.json_tree.specs.View.{view, members_view}
use Rattle.requests.proofs.owned.+value_of.Given as goal

-- the values so far are those of the items so far
abbrev pub invariant-values_of-loop-item : goal.invariant-values_of-loop-item
invariant-values_of-loop-item l = map value_view l.values.items ≡ map view (take l.item-index l.item-items)

-- the entries so far are those of the members so far
abbrev pub invariant-entries_of-loop-member : goal.invariant-entries_of-loop-member
invariant-entries_of-loop-member l = entries_view l.entries.entries ≡ members_view (take l.member-index l.member-items)
