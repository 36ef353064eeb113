use Rattle.analysis_steps.proofs.AmountLemmas.{added_all}
use Rattle.analysis_steps.proofs.amounts.added.Goals as goal

pub returns-then-natural-clause-symbols : goal.returns-then-natural-clause-symbols
returns-then-natural-clause-symbols c = added_all c.args.known.now.symbols c.args.due.now c.in_ok-same.same (c.requires c.if-natural.true) c.in_ok-same.ensures
