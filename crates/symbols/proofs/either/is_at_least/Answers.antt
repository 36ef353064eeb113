use Rattle.symbols.proofs.EitherLemmas.{at_least_by}
use Rattle.symbols.proofs.either.is_at_least.Goals as goal

pub returns-in-Some : goal.returns-in-Some
returns-in-Some c =
    let s = rw c.in-Some.is at c.in_ok-difference.ensures in
    λ h. at_least_by c.args.symbols.now c.args.expression.now c.args.least.now c.in-Some.d s (c.shows.ensures h)
