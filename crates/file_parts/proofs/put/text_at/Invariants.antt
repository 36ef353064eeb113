use Rattle.std.proofs.Common.{◌≡◌, ℕ, drop, map}
use Rattle.file_parts.specs.Files.{text_of, tree_at}
use Rattle.file_parts.proofs.put.text_at.Given as goal

-- none of the files so far is at the path
abbrev pub invariant-loop-file : goal.invariant-loop-file
invariant-loop-file l = (depth : ℕ) → tree_at depth (map text_of l.files) l.path ≡ tree_at depth (map text_of (drop l.file-index l.files)) l.path
