use Rattle.std.proofs.Common.{◌≡◌, ◌∙◌, true≢false, option_map, ap, sym}
use Rattle.std.specs.Cmp.Lexicographic.{bytes_decides}
use Rattle.json_tree.specs.View.{view}
use Rattle.json_tree.proofs.Members.{last-here, last-before}
use Rattle.json_tree.proofs.look.last_member.Goals as goal
use Rattle.json_tree.proofs.look.last_member.Goals.{then-eq, else-eq}

pub loop-member-preserved : goal.loop-member-preserved
loop-member-preserved c =
    let items = c.deref-member-items.result.now in
    let m = c.member-item.result in
    let q = c.args.name.now in
    elim c.if-eq.branch [
      | then-eq w ↦
          let named : m.0.now ≡ q = (bytes_decides m.0.now q).0 (sym c.eq.ensures ∙ w.if-eq.true) in
          ap (option_map (λ v. view v.now)) w.found-is ∙ last-here q items c.loop-member.member-index m c.loop-member-test.true c.member-item.is named
      | else-eq w ↦
          let other : (q ≡ m.0.now → ⊥) = λ e. true≢false (sym ((bytes_decides m.0.now q).1 (sym e)) ∙ sym c.eq.ensures ∙ w.if-eq.false) in
          ap (option_map (λ v. view v.now)) w.found-is ∙ c.loop-member.invariant ∙ last-before q items c.loop-member.member-index m c.loop-member-test.true c.member-item.is other
    ]
