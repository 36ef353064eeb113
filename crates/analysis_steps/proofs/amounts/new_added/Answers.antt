use Rattle.analysis_steps.proofs.AmountLemmas.{added_part}
use Rattle.analysis_steps.proofs.amounts.new_added.Goals as goal

pub returns-clause-symbols : goal.returns-clause-symbols
returns-clause-symbols c =
    added_part c.args.known.now.symbols c.fresh.new.self.symbols c.learn_if.new.known.symbols c.args.due.now c.in_ok-added.added c.greatest.result c.natural_bound-most.result
    c.greatest.ensures c.natural_bound-most.ensures c.in_ok-added.ensures.symbols c.in_ok-learn_if.ensures.symbols
