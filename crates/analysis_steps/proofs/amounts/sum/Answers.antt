use Rattle.analysis_steps.proofs.AmountLemmas.{sum_here}
use Rattle.analysis_steps.proofs.amounts.sum.Goals as goal

pub returns-in-Some-clause-symbols : goal.returns-in-Some-clause-symbols
returns-in-Some-clause-symbols c = sum_here c.args.known.now.symbols c.args.l.now c.args.m.now c.in-Some.e (rw c.in-Some.is at c.in_ok-sum.ensures)
