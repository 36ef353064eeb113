use Rattle.std.proofs.Common.{drop, ap}
use Rattle.json.specs.Value.{items_view, members_view}
use Rattle.unread_keys.specs.Sorts.{member_field}
use Rattle.unread_keys.specs.Unread.{items_notes, members_notes}
use Rattle.unread_keys.proofs.GainLemmas.{goes_from, goes_to}
use Rattle.unread_keys.proofs.NoteLemmas.{past_item, past_member, no_items, no_members, later_keys, object_gains}
use Rattle.unread_keys.proofs.walk.+walk.Goals as goal

-- ---- items

pub walk_items-loop-index-init : goal.walk_items-loop-index-init
walk_items-loop-index-init t c = goes_from c.args.found.now (items_notes c.args.found.now.path.items c.args.sort 0 (items_view c.args.items.now))

pub walk_items-loop-index-preserved : goal.walk_items-loop-index-preserved
walk_items-loop-index-preserved t c =
    let path = c.args.found.now.path.items in
    past_item c.args.found.now c.loop-index.found c.walk_item.new.found path c.loop-index.found.path.items c.args.sort c.args.items.now c.loop-index.index c.index-items-index.result c.item_sort.result
    (items_notes path c.args.sort 0 (items_view c.args.items.now)) c.loop-index-test.true c.index-items-index.is c.loop-index.invariant.path c.item_sort.ensures c.loop-index.invariant c.in_ok-walk_item.ensures

pub walk_items-returns : goal.walk_items-returns
walk_items-returns t c =
    let path = c.args.found.now.path.items in
    goes_to c.args.found.now c.loop-index.found (items_notes path c.args.sort c.loop-index.index (items_view (drop c.loop-index.index c.args.items.now)))
    (items_notes path c.args.sort 0 (items_view c.args.items.now)) (no_items path c.args.sort c.loop-index.index c.loop-index.index c.args.items.now c.loop-index-test.false) c.loop-index.invariant

-- ---- members

pub walk_members-loop-index-init : goal.walk_members-loop-index-init
walk_members-loop-index-init t c = goes_from c.args.found.now (members_notes c.args.found.now.path.items c.args.form 0 (members_view c.args.members.now))

pub walk_members-loop-index-preserved : goal.walk_members-loop-index-preserved
walk_members-loop-index-preserved t c =
    let path = c.args.found.now.path.items in
    let m = c.index-members-index.result in
    past_member c.args.found.now c.loop-index.found c.walk_member.new.found path c.loop-index.found.path.items c.args.form c.args.members.now c.loop-index.index m _
    (members_notes path c.args.form 0 (members_view c.args.members.now)) c.loop-index-test.true c.index-members-index.is c.loop-index.invariant.path
    (ap (member_field c.args.form m.0.now) (later_keys c.behind.result.now c.args.members.now c.loop-index.index c.behind.ensures)) c.loop-index.invariant c.in_ok-walk_member.ensures

pub walk_members-returns : goal.walk_members-returns
walk_members-returns t c =
    let path = c.args.found.now.path.items in
    goes_to c.args.found.now c.loop-index.found (members_notes path c.args.form c.loop-index.index (members_view (drop c.loop-index.index c.args.members.now)))
    (members_notes path c.args.form 0 (members_view c.args.members.now)) (no_members path c.args.form c.loop-index.index c.loop-index.index c.args.members.now c.loop-index-test.false) c.loop-index.invariant

pub walk_object-returns : goal.walk_object-returns
walk_object-returns t c =
    object_gains c.args.found.now c.walk_members.new.found c.args.found.now.path.items c.args.sort c.args.members.now.items c.as_slice-members.result.now
    c.form_of.result c.as_slice-members.ensures.value c.form_of.ensures c.in_ok-walk_members.ensures
