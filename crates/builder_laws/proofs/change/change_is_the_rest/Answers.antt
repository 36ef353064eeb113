use Rattle.builder_laws.proofs.ChangeLemmas.{step_change_is_the_rest, start_change_is_the_rest}
use Rattle.builder_laws.proofs.change.change_is_the_rest.Goals as goal

pub returns-clause-step : goal.returns-clause-step
returns-clause-step c = step_change_is_the_rest c.money_is_kept.ensures c.transactions_end_quiet.ensures c.payments_are_natural.ensures

pub returns-clause-start : goal.returns-clause-start
returns-clause-start c = start_change_is_the_rest
