use Rattle.std.proofs.lemmas.Result.{IfOk-weaker}
use Rattle.analysis_values.specs.Steps.{IsNoLess, IsLess, FailsOf}
use Rattle.analysis_values.specs.declared.comparisons.Comparison.TheVariants.{Greater, NoGreater}
use Rattle.analysis_values.proofs.TruthLemmas.{turned_known}
use Rattle.analysis_values.proofs.comparisons.where_false.Goals as goal

pub returns-in-Greater : goal.returns-in-Greater
returns-in-Greater c =
    rw c.in-Greater.is (IfOk-weaker c.where_no_less.result _ _ (λ o h. turned_known IsNoLess (FailsOf Greater) (λ x y e. e) c.args.symbols.now c.args.left.now c.args.right.now o h) c.where_no_less.ensures)

pub returns-in-NoGreater : goal.returns-in-NoGreater
returns-in-NoGreater c =
    rw c.in-NoGreater.is (IfOk-weaker c.where_less-in-NoGreater.result _ _ (λ o h. turned_known IsLess (FailsOf NoGreater) (λ x y e. e) c.args.symbols.now c.args.left.now c.args.right.now o h) c.where_less-in-NoGreater.ensures)
