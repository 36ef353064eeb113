use Rattle.analysis_values.proofs.TruthLemmas.{same_by, same_none}
use Rattle.analysis_values.proofs.truths.where_same.Goals as goal

pub returns-in_ok-same-in-Some : goal.returns-in_ok-same-in-Some
returns-in_ok-same-in-Some c = same_by c.args.symbols.now c.args.left.now c.args.right.now c.in-Some.more c.in_ok-same-in-Some.same (rw c.in-Some.is at c.in_ok-no_less.ensures) c.in_ok-same-in-Some.ensures

pub returns-in-None : goal.returns-in-None
returns-in-None c = same_none c.args.symbols.now c.args.left.now c.args.right.now (rw c.in-None.is at c.in_ok-no_less.ensures)
