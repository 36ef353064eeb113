use Rattle.linear.specs.Bounded.{numbered}
use Rattle.symbols.proofs.JoinLemmas.{shared_one}
use Rattle.symbols.proofs.join.put_one.Goals as goal

pub returns-in_ok-push : goal.returns-in_ok-push
returns-in_ok-push c =
    shared_one c.args.count c.args.own.now (numbered 0 c.args.bounds.now) c.args.others.now c.args.facts.now c.push.new.self c.args.at c.index-own-at.result c.in_ok-copy.copy c.requires
    c.index-own-at.is
    (rw c.terms.ensures at (c.is_below.ensures c.if-is_below.true)) (c.shown.ensures c.if-shown.true) c.in_ok-copy.ensures c.in_ok-push.ensures.added
