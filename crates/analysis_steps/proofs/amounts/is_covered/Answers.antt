use Rattle.std.proofs.lemmas.Result.{IfOk-weaker}
use Rattle.analysis_steps.proofs.AmountLemmas.{at_least_natural, natural_shown}
use Rattle.analysis_steps.proofs.amounts.is_covered.Goals as goal

pub returns-then-shows : goal.returns-then-shows
returns-then-shows c =
    let s = rw c.in-Some.is at c.in_ok-difference.ensures in
    λ h. at_least_natural c.args.known.now.symbols c.args.l.now c.args.m.now c.in-Some.d s (natural_shown c.args.known.now.symbols c.in-Some.d (c.shows.ensures c.if-shows.true))

pub returns-in-Some : goal.returns-in-Some
returns-in-Some c =
    let s = rw c.in-Some.is at c.in_ok-difference.ensures in
    IfOk-weaker c.shows_by_cases.result _ _ (λ yes h e. at_least_natural c.args.known.now.symbols c.args.l.now c.args.m.now c.in-Some.d s ((rw c.symbols.ensures at h) e)) c.shows_by_cases.ensures
