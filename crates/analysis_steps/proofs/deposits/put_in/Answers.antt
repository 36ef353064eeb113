use Rattle.std.proofs.Common.{◌++◌, ap, ◌∙◌}
use Rattle.contract.specs.Tree.{value_tree}
use Rattle.analysis_spec.specs.declared.kind.AlarmKind.TheVariants.{NonPositiveDeposit, Leaves128}
use Rattle.analysis_values.specs.Answered.{unless}
use Rattle.analysis_steps.proofs.ConcludedLemmas.{put_so, two_put}
use Rattle.analysis_steps.proofs.deposits.put_in.Goals as goal

pub returns : goal.returns
returns c =
    let above = c.in_ok-above.above in
    put_so c.args.known c.evaluate.new.known c.added.new.known c.grow.new.known c.args.owner.now c.args.token.now (value_tree c.args.value.now) c.in_ok-due.due.number c.in_ok-more.more above
    c.in_ok-due.due.fits c.in_ok-sum.sum c.put_unless-2.new.kinds c.in_ok-due.ensures.number c.in_ok-due.ensures.fits c.in_ok-above.ensures c.in_ok-more.ensures.symbols c.added.ensures.view c.in_ok-sum.ensures
    (two_put c.new-kinds.result c.put_unless.new.kinds c.put_unless-2.new.kinds (unless above NonPositiveDeposit) (unless c.both-fits.result Leaves128) c.new-kinds.ensures c.in_ok-put_unless.ensures c.in_ok-put_unless-2.ensures
    ∙ ap (λ b. unless above NonPositiveDeposit ++ unless b Leaves128) c.both-fits.ensures)
