use Rattle.std.proofs.Common.{sym, subst}
use Rattle.std.proofs.lemmas.Result.{IfOk-weaker}
use Rattle.analysis_values.specs.Steps.{GivesOf, result_of}
use Rattle.analysis_values.proofs.operations.operated.Goals as goal

pub returns-clause-number : goal.returns-clause-number
returns-clause-number c =
    IfOk-weaker c.within.result _ _ (λ a h. subst (GivesOf (result_of c.args.operation) c.args.symbols.now c.number_of_two.new.symbols c.args.left.now c.args.right.now) (sym h) c.in_ok-number.ensures) c.within.ensures.number
