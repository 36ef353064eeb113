use Rattle.std.proofs.Common.{drop}
use Rattle.json.specs.Value.{items_view, members_view}
use Rattle.unread_keys.specs.Unread.{items_notes, members_notes}
use Rattle.unread_keys.specs.UnreadSupport.{Goes}
use Rattle.unread_keys.proofs.walk.+walk.Given as goal

-- what the items so far have is gained
abbrev pub invariant-walk_items-loop-index : goal.invariant-walk_items-loop-index
invariant-walk_items-loop-index l =
    let path = l.initial.found.path.items in
    Goes l.initial.found l.found (items_notes path l.sort l.index (items_view (drop l.index l.items))) (items_notes path l.sort 0 (items_view l.items))

-- what the members so far have is gained
abbrev pub invariant-walk_members-loop-index : goal.invariant-walk_members-loop-index
invariant-walk_members-loop-index l =
    let path = l.initial.found.path.items in
    Goes l.initial.found l.found (members_notes path l.form l.index (members_view (drop l.index l.members))) (members_notes path l.form 0 (members_view l.members))
