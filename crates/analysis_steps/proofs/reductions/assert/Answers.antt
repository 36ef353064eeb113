use Rattle.std.proofs.Common.{◌++◌, ap, ◌∙◌}
use Rattle.contract.specs.Tree.{observation_tree}
use Rattle.analysis_spec.specs.declared.kind.AlarmKind.TheVariants.{AssertionFailed, Leaves128}
use Rattle.analysis_values.specs.Answered.{unless}
use Rattle.analysis_steps.proofs.ConcludedLemmas.{assert_so, two_put}
use Rattle.analysis_steps.proofs.reductions.assert.Goals as goal

pub returns : goal.returns
returns c =
    let o = c.in_ok-observed.observed in
    assert_so c.args.known (observation_tree c.args.observation.now) o.if_true o.if_false c.in_ok-after.after o.fits c.put_unless-2.new.kinds c.in_ok-observed.ensures.branches c.in_ok-observed.ensures.conclusion
    c.in_ok-after.ensures
    (two_put c.new-kinds.result c.put_unless.new.kinds c.put_unless-2.new.kinds (unless c.is_impossible-holds.result AssertionFailed) (unless o.fits Leaves128) c.new-kinds.ensures c.in_ok-put_unless.ensures
    c.in_ok-put_unless-2.ensures
    ∙ ap (λ b. unless b AssertionFailed ++ unless o.fits Leaves128) c.is_impossible-holds.ensures)
