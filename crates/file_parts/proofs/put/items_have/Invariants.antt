use Rattle.std.proofs.Common.{◌≡◌, map, take}
use Rattle.json.specs.Value.{value_view}
use Rattle.file_parts.specs.Files.{text_of, tree_at}
use Rattle.file_parts.specs.FilesSupport.{put_in_item}
use Rattle.file_parts.proofs.put.items_have.Given as goal

-- the items so far have their files
abbrev pub invariant-loop-index : goal.invariant-loop-index
invariant-loop-index l = map value_view (take l.index l.new) ≡ map (λ v. put_in_item (tree_at l.depth (map text_of l.files)) (value_view v)) (take l.index l.old)
