use Rattle.analysis_steps.proofs.AmountLemmas.{added_nothing}
use Rattle.analysis_steps.proofs.amounts.part_added.Goals as goal

pub returns-then-is_nothing-clause-symbols : goal.returns-then-is_nothing-clause-symbols
returns-then-is_nothing-clause-symbols c = added_nothing c.args.known.now.symbols c.args.due.now c.number.result (c.is_nothing.ensures c.if-is_nothing.true) c.number.ensures
