use Rattle.std.proofs.Common.{◌≡◌, codes, map, take}
use Rattle.file_parts.specs.Files.{text_of, tree_at}
use Rattle.file_parts.specs.FilesSupport.{changed_pair, pair_of, put_in_list}
use Rattle.file_parts.proofs.put.members_have.Given as goal

-- the members so far have their files
abbrev pub invariant-loop-index : goal.invariant-loop-index
invariant-loop-index l = map pair_of (take l.index l.new) ≡ map (changed_pair (codes "contracts") (put_in_list (tree_at l.depth (map text_of l.files)))) (take l.index l.old)
