use Rattle.analysis_steps.proofs.CloseLaws.{least_here, greatest_here}
use Rattle.analysis_steps.proofs.ends.bounds_of_sum.Goals as goal

pub returns-in-Some-clause-least : goal.returns-in-Some-clause-least
returns-in-Some-clause-least c = least_here c.args.known.now.symbols c.args.l.now c.args.m.now c.in-Some.all c.least.result (rw c.in-Some.is at c.in_ok-sum.ensures) c.least.ensures

pub returns-in-Some-clause-greatest : goal.returns-in-Some-clause-greatest
returns-in-Some-clause-greatest c = greatest_here c.args.known.now.symbols c.args.l.now c.args.m.now c.in-Some.all c.greatest.result (rw c.in-Some.is at c.in_ok-sum.ensures) c.greatest.ensures
