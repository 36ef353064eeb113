use Rattle.std.proofs.Common.{sym, ap, ◌∙◌}
use Rattle.semantics.proofs.FromEvaluation.Numbers.{within_ok}
use Rattle.replay.specs.ComingSupport.{branch}
use Rattle.replay.proofs.placed.branch_of.Goals as goal

pub returns-then-truth : goal.returns-then-truth
returns-then-truth c = ap branch (sym c.if-truth.true ∙ (within_ok _ _ _ c.in-Ok.ensures).1)

pub returns-else-truth : goal.returns-else-truth
returns-else-truth c = ap branch (sym c.if-truth.false ∙ (within_ok _ _ _ c.in-Ok.ensures).1)
