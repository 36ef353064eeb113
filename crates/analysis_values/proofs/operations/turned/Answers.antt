use Rattle.std.proofs.Common.{sym, subst}
use Rattle.std.proofs.lemmas.Result.{IfOk-weaker}
use Rattle.analysis_values.specs.Steps.{GivesOpposite}
use Rattle.analysis_values.proofs.StepLemmas.{opposite_by}
use Rattle.analysis_values.proofs.operations.turned.Goals as goal

pub returns-clause-number : goal.returns-clause-number
returns-clause-number c =
    let g = opposite_by c.args.symbols.now c.multiple.new.self c.args.number.now c.in_ok-opposite.opposite c.in_ok-opposite.ensures in
    IfOk-weaker c.within.result _ _ (λ a h. subst (GivesOpposite c.args.symbols.now c.multiple.new.self c.args.number.now) (sym h) g) c.within.ensures.number
