use Rattle.std.proofs.Common.{◌≡◌, ◌++◌, drop, map}
use Rattle.json.specs.Value.{items_view}
use Rattle.file_parts.specs.Files.{named_items, seen}
use Rattle.file_parts.proofs.named.put_items.Given as goal

-- what was found and what is to come is all
abbrev pub invariant-loop-item : goal.invariant-loop-item
invariant-loop-item l = map seen l.files.items ++ named_items (items_view (drop l.item-index l.items)) ≡ map seen l.initial.files.items ++ named_items (items_view l.items)
