use Rattle.analysis_steps.proofs.CloseLaws.{least_here}
use Rattle.analysis_steps.proofs.ends.least_of_sum.Goals as goal

pub returns-in-Some : goal.returns-in-Some
returns-in-Some c = least_here c.args.known.now.symbols c.args.l.now c.args.m.now c.in-Some.all c.least_beside.result (rw c.in-Some.is at c.in_ok-sum.ensures) c.least_beside.ensures
