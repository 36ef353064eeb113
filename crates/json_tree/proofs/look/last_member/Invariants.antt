use Rattle.std.proofs.Common.{◌≡◌, option_map, take}
use Rattle.serde_json.specs.Find.{get_member}
use Rattle.json_tree.specs.View.{view, members_view}
use Rattle.json_tree.proofs.look.last_member.Given as goal

-- what was found is the last so far
abbrev pub invariant-loop-member : goal.invariant-loop-member
invariant-loop-member l = option_map (λ v. view v.now) l.found ≡ get_member l.name (members_view (take l.member-index l.member-items))
