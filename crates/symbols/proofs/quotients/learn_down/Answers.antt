use Rattle.std.proofs.lemmas.Result.{on_ok_weaker}
use Rattle.symbols.proofs.QuotientLemmas.{down_none, down_learned}
use Rattle.symbols.proofs.quotients.learn_down.Goals as goal

pub returns-then-not-natural : goal.returns-then-not-natural
returns-then-not-natural c = down_none c.args.symbols.now c.args.dividend.now c.args.divisor.now c.args.quotient.now

pub returns-then-not-by_natural : goal.returns-then-not-by_natural
returns-then-not-by_natural c = down_none c.args.symbols.now c.args.dividend.now c.args.divisor.now c.args.quotient.now

pub returns-in-Some : goal.returns-in-Some
returns-in-Some c =
    let s = rw c.in-Some.is at c.in_ok-less.ensures in
    on_ok_weaker c.learn.result
    (λ h. down_learned c.args.symbols.now c.learn.new.self c.args.dividend.now c.args.divisor.now c.args.quotient.now c.in-Some.fact (c.shows-natural.ensures c.if-not-natural.false)
    (c.shows-by_natural.ensures c.if-not-by_natural.false) s h)
    c.learn.ensures

pub returns-in-None : goal.returns-in-None
returns-in-None c = down_none c.args.symbols.now c.args.dividend.now c.args.divisor.now c.args.quotient.now
