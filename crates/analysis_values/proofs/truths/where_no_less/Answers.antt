use Rattle.analysis_values.specs.Steps.{IsNoLess}
use Rattle.analysis_values.proofs.TruthLemmas.{knows_no_more, no_less_some, no_less_none}
use Rattle.analysis_values.proofs.truths.where_no_less.Goals as goal

pub returns-then-possible : goal.returns-then-possible
returns-then-possible c = no_less_some c.args.symbols.now c.args.left.now c.args.right.now c.in_ok-more.more c.assume.new.self c.in-Some.d c.in_ok-possible-in-Some.possible c.in_ok-more.ensures (rw c.in-Some.is at c.in_ok-difference.ensures) c.in_ok-possible-in-Some.ensures

pub returns-else-possible : goal.returns-else-possible
returns-else-possible c = no_less_none c.args.symbols.now c.args.left.now c.args.right.now c.in_ok-more.more c.assume.new.self c.in-Some.d c.in_ok-possible-in-Some.possible c.in_ok-more.ensures (rw c.in-Some.is at c.in_ok-difference.ensures) c.in_ok-possible-in-Some.ensures c.if-possible.false

pub returns-in-None : goal.returns-in-None
returns-in-None c = knows_no_more c.args.symbols.now c.args.left.now c.args.right.now IsNoLess c.in_ok-more.more c.in_ok-more.ensures
