use Rattle.analysis_steps.proofs.AmountLemmas.{paid_nothing, paid_all_held}
use Rattle.analysis_steps.proofs.amounts.part.Goals as goal

pub returns-then-is_nothing-clause-symbols : goal.returns-then-is_nothing-clause-symbols
returns-then-is_nothing-clause-symbols c = paid_nothing c.args.known.now.symbols c.args.balance.now c.args.due.now c.number.result (c.is_nothing.ensures c.if-is_nothing.true) c.number.ensures

pub returns-then-all-clause-symbols : goal.returns-then-all-clause-symbols
returns-then-all-clause-symbols c =
    paid_all_held c.args.known.now.symbols c.args.balance.now c.args.due.now c.in_ok-same.same (c.in_ok-all.ensures c.if-all.true) c.in_ok-same.ensures
