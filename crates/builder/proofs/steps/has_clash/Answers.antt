use Rattle.std.proofs.Common.{◌-◌, option_copied, sym, ◌∙◌, ap, arith}
use Rattle.builder.specs.ClashSupport.{kept}
use Rattle.builder.proofs.ClashLemmas.{differs, clash_here, under_here, clash_drop}
use Rattle.builder.proofs.steps.has_clash.Goals as goal

pub returns-then-are_other : goal.returns-then-are_other
returns-then-are_other c =
    let ss = c.args.steps.now in
    let n = c.loop-i.i in
    let p = c.published-published.result.now in
    let clashes = clash_here ss n c.step_at.result.now p (option_copied c.in-Ok-Some.field-0) (omega (arith, c.loop-i-test.true)) (omega (arith, c.loop-i.auto.i)) c.step_at.ensures
    c.published-published.ensures c.loop-i.invariant.apart (c.in-Ok-Some.ensures.was ∙ c.loop-i.invariant.next p.id) in
    sym (clash_drop (n - 1) ss (clashes ∙ ap (λ o. differs p (option_copied o)) c.in-Ok-Some.field-0-is ∙ sym c.are_other.ensures ∙ c.if-are_other.true))

pub loop-i-preserved-else-are_other : goal.loop-i-preserved-else-are_other
loop-i-preserved-else-are_other c =
    let ss = c.args.steps.now in
    let n = c.loop-i.i in
    let s = c.step_at.result.now in
    let p = c.published-published.result.now in record {
      apart = clash_here ss n s p (option_copied c.in-Ok-Some.field-0) (omega (arith, c.loop-i-test.true)) (omega (arith, c.loop-i.auto.i)) c.step_at.ensures
          c.published-published.ensures c.loop-i.invariant.apart (c.in-Ok-Some.ensures.was ∙ c.loop-i.invariant.next p.id)
          ∙ ap (λ o. differs p (option_copied o)) c.in-Ok-Some.field-0-is ∙ sym c.are_other.ensures ∙ c.if-are_other.false;
      next = under_here ss n s p (kept c.loop-i.later) (kept c.put_published.new.later) (omega (arith, c.loop-i-test.true)) (omega (arith, c.loop-i.auto.i)) c.step_at.ensures
          c.published-published.ensures c.loop-i.invariant.next c.in-Ok-Some.ensures.put;
    }

pub loop-i-preserved : goal.loop-i-preserved
loop-i-preserved c =
    let ss = c.args.steps.now in
    let n = c.loop-i.i in
    let s = c.step_at.result.now in
    let p = c.published-published.result.now in record {
      apart = clash_here ss n s p (option_copied c.in-Ok-None.field-0) (omega (arith, c.loop-i-test.true)) (omega (arith, c.loop-i.auto.i)) c.step_at.ensures
          c.published-published.ensures c.loop-i.invariant.apart (c.in-Ok-None.ensures.was ∙ c.loop-i.invariant.next p.id)
          ∙ ap (λ o. differs p (option_copied o)) c.in-Ok-None.field-0-is;
      next = under_here ss n s p (kept c.loop-i.later) (kept c.put_published.new.later) (omega (arith, c.loop-i-test.true)) (omega (arith, c.loop-i.auto.i)) c.step_at.ensures
          c.published-published.ensures c.loop-i.invariant.next c.in-Ok-None.ensures.put;
    }
