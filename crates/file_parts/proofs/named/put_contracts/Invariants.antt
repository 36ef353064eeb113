use Rattle.std.proofs.Common.{◌≡◌, ◌++◌, drop, map}
use Rattle.json.specs.Value.{members_view}
use Rattle.file_parts.specs.Files.{named_among, seen}
use Rattle.file_parts.proofs.named.put_contracts.Given as goal

-- what was found and what is to come is all
abbrev pub invariant-loop-member : goal.invariant-loop-member
invariant-loop-member l = map seen l.files.items ++ named_among l.name (members_view (drop l.member-index l.members)) ≡ map seen l.initial.files.items ++ named_among l.name (members_view l.members)
