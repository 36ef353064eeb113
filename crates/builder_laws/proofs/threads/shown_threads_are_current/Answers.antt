use Rattle.builder_laws.proofs.ShownThreadsLemmas.{shown_threads_stand}
use Rattle.builder_laws.proofs.threads.shown_threads_are_current.Goals as goal

pub returns : goal.returns
returns c = shown_threads_stand c.found_is_enough.ensures c.contracts_are_funded.ensures.sums c.contracts_are_funded.ensures.number
