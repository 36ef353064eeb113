use Rattle.std.proofs.Common.{sym, subst}
use Rattle.contract.specs.Tree.{value_tree}
use Rattle.analysis_spec.specs.declared.kind.AlarmKind.TheVariants.{Leaves128}
use Rattle.analysis_values.specs.Answered.{unless}
use Rattle.analysis_walk.specs.Limits.{GoesOn}
use Rattle.analysis_steps.proofs.ConcludedLemmas.{one_put}
use Rattle.analysis_steps.proofs.deposits.tried.Goals as goal

pub returns : goal.returns
returns c = λ scope i s ps d g.
    let e = one_put c.new-kinds.result c.put_unless.new.kinds (unless c.in_ok-due.due.fits Leaves128) c.new-kinds.ensures c.in_ok-put_unless.ensures in
    c.in_ok-due.ensures.fits scope i s ps d (subst (GoesOn scope) e g)
