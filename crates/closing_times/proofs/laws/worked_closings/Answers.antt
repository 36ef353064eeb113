use Rattle.closing_times.proofs.WorkedLemmas.{waiting_closes, waiting_stays, past_is_refused}
use Rattle.closing_times.proofs.laws.worked_closings.Goals as goal

pub returns-clause-waiting : goal.returns-clause-waiting
returns-clause-waiting c = waiting_closes

pub returns-clause-early : goal.returns-clause-early
returns-clause-early c = waiting_stays

pub returns-clause-past : goal.returns-clause-past
returns-clause-past c = past_is_refused
