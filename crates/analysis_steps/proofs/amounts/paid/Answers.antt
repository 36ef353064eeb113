use Rattle.analysis_steps.proofs.AmountLemmas.{paid_all}
use Rattle.analysis_steps.proofs.amounts.paid.Goals as goal

pub returns-then-whole-clause-symbols : goal.returns-then-whole-clause-symbols
returns-then-whole-clause-symbols c =
    let h = c.requires c.if-whole.true in
    paid_all c.args.known.now.symbols c.args.balance.now c.args.due.now c.in_ok-same.same h.0 h.1 c.in_ok-same.ensures
