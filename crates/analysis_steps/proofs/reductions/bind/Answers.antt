use Rattle.std.proofs.Common.{not}
use Rattle.contract.specs.Tree.{value_tree}
use Rattle.analysis_spec.specs.declared.kind.AlarmKind.TheVariants.{Shadowing, Leaves128}
use Rattle.analysis_values.specs.Answered.{unless}
use Rattle.analysis_steps.proofs.ConcludedLemmas.{bind_so, two_put}
use Rattle.analysis_steps.proofs.reductions.bind.Goals as goal

pub returns : goal.returns
returns c =
    let shadows = c.is_bound-shadows.result in
    let fits = c.in_ok-bound.bound.fits in
    bind_so c.args.known c.evaluate.new.known c.set_bound.new.self c.args.name.now (value_tree c.args.value.now) c.in_ok-bound.bound.number shadows fits c.put_unless-2.new.kinds c.in_ok-bound.ensures.number
    c.in_ok-bound.ensures.fits c.is_bound-shadows.ensures c.in_ok-set_bound.ensures
    (two_put c.new-kinds.result c.put_unless.new.kinds c.put_unless-2.new.kinds (unless (not shadows) Shadowing) (unless fits Leaves128) c.new-kinds.ensures c.in_ok-put_unless.ensures c.in_ok-put_unless-2.ensures)
