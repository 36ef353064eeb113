use Rattle.std.proofs.Common.{sym, ap, ◌∙◌}
use Rattle.names.specs.Equal.{same_text}
use Rattle.unread_keys.specs.UnreadSupport.{Entry}
use Rattle.unread_keys.proofs.KeyLemmas.{any_here, any_past, any_none}
use Rattle.unread_keys.proofs.sorts.is_there.Goals as goal

pub returns-then-same : goal.returns-then-same
returns-then-same c =
    any_here (λ (m : Entry). m.0.now) c.args.members.now (λ key. same_text key c.args.word.now) c.member-item.result c.loop-member.member-index c.loop-member-test.true c.loop-member.invariant (ap (λ (m : Entry). same_text m.0.now c.args.word.now) (sym c.member-item.is) ∙ sym c.eq-same.ensures ∙ c.if-same.true)

pub loop-member-preserved : goal.loop-member-preserved
loop-member-preserved c =
    any_past (λ (m : Entry). m.0.now) c.args.members.now (λ key. same_text key c.args.word.now) c.member-item.result c.loop-member.member-index c.loop-member-test.true c.loop-member.invariant (ap (λ (m : Entry). same_text m.0.now c.args.word.now) (sym c.member-item.is) ∙ sym c.eq-same.ensures ∙ c.if-same.false)

pub returns : goal.returns
returns c = any_none (λ (m : Entry). m.0.now) c.args.members.now (λ key. same_text key c.args.word.now) c.loop-member.member-index c.loop-member-test.false c.loop-member.invariant
