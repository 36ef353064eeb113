use Rattle.analysis_values.specs.Steps.{IsLess}
use Rattle.std.proofs.lemmas.Result.{IfOk-weaker}
use Rattle.analysis_values.proofs.TruthLemmas.{knows_no_more, less_by}
use Rattle.analysis_values.proofs.truths.where_less.Goals as goal

pub returns-in-Some : goal.returns-in-Some
returns-in-Some c =
    let s = rw c.in-Some.is at c.in_ok-above.ensures in
    IfOk-weaker c.where_no_less.result _ _ (λ o h. less_by c.args.symbols.now c.args.left.now c.args.right.now c.in-Some.least o s h) c.where_no_less.ensures

pub returns-in_ok-same-in-None : goal.returns-in_ok-same-in-None
returns-in_ok-same-in-None c = knows_no_more c.args.symbols.now c.args.left.now c.args.right.now IsLess c.in_ok-same-in-None.same c.in_ok-same-in-None.ensures
