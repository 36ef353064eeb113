use Rattle.std.proofs.Common.{sym, ◌∙◌}
use Rattle.bundle.proofs.WalkLemmas.{before_more, greater}
use Rattle.bundle.proofs.walk.skip_before.Goals as goal

pub loop-at-preserved : goal.loop-at-preserved
loop-at-preserved c =
    before_more c.args.token.now c.args.entries.now c.loop-at.at c.index-entries-at.result c.loop-at-test.true c.index-entries-at.is
    (greater _ (sym c.comes_before.ensures ∙ c.if-not-comes_before.false)) c.loop-at.invariant
