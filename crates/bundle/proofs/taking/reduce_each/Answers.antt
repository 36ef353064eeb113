use Rattle.std.proofs.Common.{rules, ◌+◌, drop, sym, subst, arith}
use Rattle.std.specs.FinMap.{from_sorted}
use Rattle.bundle.proofs.LessLemmas.{IsLessening, starting, enough, lessened}
use Rattle.bundle.proofs.WalkLemmas.{here, none_after, none_after-first}
use Rattle.bundle.proofs.taking.reduce_each.Goals as goal

pub loop-entry-init : goal.loop-entry-init
loop-entry-init c = record {
  within = omega arith;
  lessening = starting c.args.entries.now c.args.less.now c.requires.sorted c.requires.positive c.requires.less_sorted c.requires.less_positive c.requires.covered;
  before = search rules;
}

pub reduce-at-requires-clause-held : goal.reduce-at-requires-clause-held
reduce-at-requires-clause-held c =
    let left = here c.args.less.now c.loop-entry.entry-index c.entry-item.result c.loop-entry-test.true c.entry-item.is in
    enough _ _ _ _ _ (subst (IsLessening (from_sorted c.args.entries.now) c.args.less.now c.loop-entry.entries) left c.loop-entry.invariant.lessening)

pub loop-entry-preserved : goal.loop-entry-preserved
loop-entry-preserved c =
    let left = here c.args.less.now c.loop-entry.entry-index c.entry-item.result c.loop-entry-test.true c.entry-item.is in
    let rest = drop (c.loop-entry.entry-index + 1) c.args.less.now in
    let now = subst (IsLessening (from_sorted c.args.entries.now) c.args.less.now c.loop-entry.entries) left c.loop-entry.invariant.lessening in
    record {
      within = c.reduce-at.ensures.within;
      lessening = subst (λ es. IsLessening (from_sorted c.args.entries.now) c.args.less.now es rest) (sym c.reduce-at.ensures.put) (lessened _ _ c.loop-entry.entries c.entry-item.result rest now);
      before = none_after-first c.entry-item.result rest _ now.taking.sorted (none_after c.entry-item.result.0 _ c.reduce-at.ensures.before);
    }
