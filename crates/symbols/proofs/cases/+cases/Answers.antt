use Rattle.std.proofs.lemmas.Result.{IfOk-weaker}
use Rattle.symbols.proofs.CaseLemmas.{natural_by, natural_either, natural_there}
use Rattle.symbols.proofs.cases.+cases.Goals as goal

pub natural_by_cases-returns-then-shows : goal.natural_by_cases-returns-then-shows
natural_by_cases-returns-then-shows t c = λ e. natural_by c.args.here.now c.args.expression.now c.in_ok-number.number c.in_ok-number.ensures (c.shows.ensures c.if-shows.true)

pub natural_in_both-returns-in_ok-second-in-Some : goal.natural_in_both-returns-in_ok-second-in-Some
natural_in_both-returns-in_ok-second-in-Some t c = λ e.
    natural_either c.args.here.now c.args.fact.now c.in-Some.other c.args.expression.now (rw c.in-Some.is at c.in_ok-opposite.ensures) (c.in_ok-first-in-Some.ensures c.if-not-first.false) (c.in_ok-second-in-Some.ensures e)

pub natural_where-returns : goal.natural_where-returns
natural_where-returns t c =
    IfOk-weaker c.natural_by_cases.result _ _ (λ yes h e. natural_there c.args.here.now c.in_ok-there.there c.args.fact.now c.args.expression.now c.in_ok-there.ensures (h e)) c.natural_by_cases.ensures
