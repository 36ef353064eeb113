use Rattle.builder_laws.proofs.AfterLastLemmas.{anyone_closes, no_thread_hinders}
use Rattle.builder_laws.proofs.threads.anyone_closes_after_the_last_timeout.Goals as goal

pub returns-clause-closes : goal.returns-clause-closes
returns-clause-closes c = anyone_closes c.contracts_close_after_the_last_timeout.ensures.closes

pub returns-clause-none : goal.returns-clause-none
returns-clause-none c = no_thread_hinders
