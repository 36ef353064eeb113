use Rattle.std.proofs.Common.{take, subst}
use Rattle.std.proofs.lemmas.Result.{on_ok_weaker}
use Rattle.bundle.proofs.MergeLemmas.{merging_next, merging_fits, merging_more, merging_done}
use Rattle.bundle.proofs.WalkLemmas.{BeforeFirst, here, none_after-first}
use Rattle.bundle.proofs.adding.merge.Goals as goal

pub gain-requires : goal.gain-requires
gain-requires c =
    let e = c.entry-item.result in
    let left = here c.args.more.now c.loop-entry.entry-index e c.loop-entry-test.true c.entry-item.is in
    let now = merging_next _ c.args.more.now _ c.loop-entry.entry-index e c.loop-entry-test.true c.entry-item.is c.loop-entry.invariant.merging in
    record {
      within = c.loop-entry.invariant.within;
      sorted = now.sorted;
      sum_before = subst (λ es. BeforeFirst es c.loop-entry.sum.items) left c.loop-entry.invariant.sum_before;
      before = subst (λ es. BeforeFirst es (take c.loop-entry.at c.args.held.now)) left c.loop-entry.invariant.before;
      held_positive = c.requires.positive;
      positive = now.adding.positive.0;
      fits = merging_fits _ _ _ e _ now;
    }

pub loop-entry-preserved : goal.loop-entry-preserved
loop-entry-preserved c =
    let e = c.entry-item.result in
    let now = merging_next _ c.args.more.now _ c.loop-entry.entry-index e c.loop-entry-test.true c.entry-item.is c.loop-entry.invariant.merging in
    record {
      within = c.in_ok-at.ensures.within;
      merging = merging_more _ _ _ _ e _ c.in_ok-at.ensures.put now;
      sum_before = none_after-first e _ _ now.adding.sorted c.in_ok-at.ensures.sum_none_after;
      before = none_after-first e _ _ now.adding.sorted c.in_ok-at.ensures.none_after;
    }

pub returns : goal.returns
returns c =
    let d = merging_done c.copy_all.result _ c.args.more.now c.loop-entry.sum.items c.args.held.now _ c.loop-entry.at c.loop-entry.entry-index c.loop-entry-test.false c.loop-entry.invariant.merging c.copy_all.ensures in
    record {
      sorted = on_ok_weaker c.copy_all.result (λ m. m.sorted) d;
      positive = on_ok_weaker c.copy_all.result (λ m. m.positive) d;
      whole = on_ok_weaker c.copy_all.result (λ m. m.whole) d;
    }
