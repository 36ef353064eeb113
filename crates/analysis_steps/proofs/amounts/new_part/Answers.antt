use Rattle.analysis_steps.proofs.AmountLemmas.{paid_part}
use Rattle.analysis_steps.proofs.amounts.new_part.Goals as goal

pub returns-clause-symbols : goal.returns-clause-symbols
returns-clause-symbols c =
    paid_part c.args.known.now.symbols c.fresh.new.self.symbols c.learn_if.new.known.symbols c.learn_if-2.new.known.symbols c.args.balance.now c.args.due.now c.in_ok-paid.paid c.shows-natural.result c.greatest-most.result
    c.shows-natural.ensures c.greatest-most.ensures c.in_ok-paid.ensures.symbols c.in_ok-learn_if.ensures.symbols c.in_ok-learn_if-2.ensures.symbols
