use Rattle.std.proofs.lemmas.Result.{on_ok_weaker}
use Rattle.symbols.proofs.EitherLemmas.{learns_least_by, learns_least_none}
use Rattle.symbols.proofs.either.learn_least.Goals as goal

pub returns-in-Some : goal.returns-in-Some
returns-in-Some c =
    let s = rw c.in-Some.is at c.in_ok-difference.ensures in
    on_ok_weaker c.learn.result (λ h. learns_least_by c.args.symbols.now c.learn.new.self c.args.expression.now c.args.least.now c.in-Some.d s h) c.learn.ensures

pub returns-in-None : goal.returns-in-None
returns-in-None c = learns_least_none c.args.symbols.now c.args.expression.now c.args.least.now
