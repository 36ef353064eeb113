use Rattle.std.proofs.Common.{sym, ◌∙◌}
use Rattle.contract.specs.Tree.{observation_tree}
use Rattle.analysis_steps.proofs.EarlierLemmas.{never_so}
use Rattle.analysis_steps.proofs.earlier.is_never_so.Goals as goal

pub returns : goal.returns
returns c = λ h.
    let o = c.in_ok-observed.observed in
    never_so c.args.known.now (observation_tree c.args.observation.now) o.if_true o.if_false c.in_ok-observed.ensures.branches (sym c.is_impossible.ensures ∙ h)
