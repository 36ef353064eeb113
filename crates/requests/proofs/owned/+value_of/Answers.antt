use Rattle.std.proofs.Common.{◌≡◌, string_bytes, sym, ap, ◌∙◌}
use Rattle.serde_json.specs.Data.{put}
use Rattle.serde_json.specs.View.{members_view as entries_view}
use Rattle.serde_json.proofs.Views.{members_view-insert_entry}
use Rattle.json_tree.proofs.Members.{one_more}
use Rattle.requests.proofs.owned.+value_of.Goals as goal

pub entries_of-loop-member-preserved : goal.entries_of-loop-member-preserved
entries_of-loop-member-preserved t c =
    let l = c.loop-member in
    let m = c.member-item.result in
    let name = c.in_ok-name.name in
    let value = c.in_ok-value_of.field-0 in
    let named : string_bytes name ≡ m.0.now = c.in_ok-name.ensures.ok in
    ap entries_view c.in_ok-insert.ensures.entries ∙ members_view-insert_entry l.entries.entries name value
    ∙ (λ i. put (named i) (c.in_ok-value_of.ensures i) (l.invariant i))
    ∙ sym (one_more c.deref-member-items.result.now l.member-index m c.loop-member-test.true c.member-item.is)
