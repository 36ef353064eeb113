use Rattle.analysis_steps.proofs.AmountLemmas.{at_least_by}
use Rattle.analysis_steps.proofs.amounts.is_at_least.Goals as goal

pub returns-in-Some : goal.returns-in-Some
returns-in-Some c =
    let s = rw c.in-Some.is at c.in_ok-difference.ensures in
    λ h. at_least_by c.args.known.now.symbols c.args.l.now c.args.m.now c.in-Some.d s (c.shows.ensures h)
