use Rattle.std.proofs.Common.{sym, subst}
use Rattle.contract.specs.Tree.{observation_tree}
use Rattle.analysis_spec.specs.declared.kind.AlarmKind.TheVariants.{Leaves128}
use Rattle.analysis_walk.specs.Conclusions.{ObservesSo}
use Rattle.analysis_values.specs.Known.{IsDescribed}
use Rattle.analysis_values.specs.Answered.{unless}
use Rattle.analysis_steps.proofs.ConcludedLemmas.{one_put}
use Rattle.analysis_steps.proofs.branches.branch.Goals as goal

pub returns : goal.returns
returns c =
    let o = c.in_ok-observed.observed in
    subst (λ ks. ObservesSo IsDescribed c.args.known.now (observation_tree c.args.observation.now) (record { kinds = ks; if_true = o.if_true; if_false = o.if_false }))
    (sym (one_put c.new-kinds.result c.put_unless.new.kinds (unless o.fits Leaves128) c.new-kinds.ensures c.in_ok-put_unless.ensures)) c.in_ok-observed.ensures.conclusion
