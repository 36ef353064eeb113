use Rattle.ledger_laws.proofs.RunLemmas.{threads_are_runs, threads_end_with_runs, digests_tell_what_was_made}
use Rattle.ledger_laws.proofs.threads.threads_are_runs.Goals as goal

pub returns-clause-run : goal.returns-clause-run
returns-clause-run c = threads_are_runs c.turns_lead_to_the_remaining_contract.ensures c.found_is_enough.ensures

pub returns-clause-end : goal.returns-clause-end
returns-clause-end c = threads_end_with_runs c.turns_lead_to_the_remaining_contract.ensures c.found_is_enough.ensures

pub returns-clause-digests : goal.returns-clause-digests
returns-clause-digests c = digests_tell_what_was_made c.found_is_enough.ensures
