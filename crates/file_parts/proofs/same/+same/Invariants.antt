use Rattle.std.proofs.Common.{◌≡◌, map, take, length}
use Rattle.json.specs.Value.{value_view}
use Rattle.file_parts.specs.FilesSupport.{pair_of}
use Rattle.file_parts.proofs.same.+same.Given as goal

-- the items so far are the same
abbrev pub invariant-same_items-loop-index : goal.invariant-same_items-loop-index
invariant-same_items-loop-index l = map value_view (take l.index l.new) ≡ map value_view (take l.index l.old)

-- the members so far are the same
abbrev pub invariant-same_members-loop-index : goal.invariant-same_members-loop-index
invariant-same_members-loop-index l = map pair_of (take l.index l.new) ≡ map pair_of (take l.index l.old)
