use Rattle.std.proofs.lemmas.Result.{IfOk-weaker}
use Rattle.analysis_steps.proofs.AmountLemmas.{above_by}
use Rattle.analysis_steps.proofs.amounts.is_positive.Goals as goal

pub returns-in-Some : goal.returns-in-Some
returns-in-Some c =
    let s = rw c.in-Some.is at c.in_ok-less.ensures in
    IfOk-weaker c.shows_by_cases.result _ _ (λ yes h e. above_by c.args.known.now.symbols c.args.l.now c.in-Some.e s ((rw c.symbols.ensures at h) e)) c.shows_by_cases.ensures
