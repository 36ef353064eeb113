use Rattle.std.proofs.Common.{◌≡◌, codes, map, take}
use Rattle.file_parts.specs.Files.{put, text_of, tree_at}
use Rattle.file_parts.specs.FilesSupport.{changed_pair, pair_of}
use Rattle.file_parts.proofs.put.parts_have.Given as goal

-- the members so far have their files
abbrev pub invariant-loop-index : goal.invariant-loop-index
invariant-loop-index l = map pair_of (take l.index l.new) ≡ map (changed_pair (codes "contract") (put (tree_at l.depth (map text_of l.files)))) (take l.index l.old)
