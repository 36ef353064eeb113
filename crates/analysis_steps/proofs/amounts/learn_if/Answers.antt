use Rattle.std.proofs.lemmas.Result.{on_ok_weaker}
use Rattle.analysis_steps.proofs.AmountLemmas.{learns_if_none, learns_if_by}
use Rattle.analysis_steps.proofs.amounts.learn_if.Goals as goal

pub returns-then-not-asked-clause-symbols : goal.returns-then-not-asked-clause-symbols
returns-then-not-asked-clause-symbols c = learns_if_none c.args.asked c.args.known.now.symbols c.args.l.now c.args.m.now

pub returns-in-Some-clause-symbols : goal.returns-in-Some-clause-symbols
returns-in-Some-clause-symbols c =
    let s = rw c.in-Some.is at c.in_ok-difference.ensures in
    on_ok_weaker c.learn.result (λ h. learns_if_by c.args.asked c.args.known.now.symbols c.learn.new.self.symbols c.args.l.now c.args.m.now c.in-Some.d c.if-not-asked.false s h) c.learn.ensures.symbols

pub returns-in-None-clause-symbols : goal.returns-in-None-clause-symbols
returns-in-None-clause-symbols c = learns_if_none c.args.asked c.args.known.now.symbols c.args.l.now c.args.m.now
