use Rattle.std.proofs.lemmas.Result.{IfOk-weaker}
use Rattle.analysis_values.proofs.comparisons.compared.Goals as goal

pub returns-clause-leaves : goal.returns-clause-leaves
returns-clause-leaves c =
    IfOk-weaker c.settled.result _ _ (λ t l. (c.in_ok-if_true.if_true, c.in_ok-if_false.if_false, c.in_ok-if_true.ensures, c.in_ok-if_false.ensures, l)) c.settled.ensures.leaves
