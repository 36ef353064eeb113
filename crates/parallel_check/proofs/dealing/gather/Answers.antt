use Rattle.std.proofs.Common.{◌∙◌, subst, sym, ◌<◌}
use Rattle.parallel_check.proofs.DealingLemmas.{gather_step}
use Rattle.parallel_check.proofs.dealing.gather.Goals as goal

pub loop-place-preserved : goal.loop-place-preserved
loop-place-preserved g c =
    let inv = c.loop-place.invariant in (
      c.take_next.ensures.len ∙ inv.0,
      λ xs len dealt.
          let old = inv.1 xs len dealt in
          gather_step _ _ c.loop-place.place xs c.loop-place.all.items c.put.new.all.items c.loop-place.batches.items c.take_next.new.batches.items c.take_next.result
          inv.0 (subst (λ k. c.loop-place.place < k) (sym len) c.loop-place-test.true) c.take_next.ensures.next c.take_next.ensures.rest old.0 old.1 c.in_ok-put.ensures,
    )
