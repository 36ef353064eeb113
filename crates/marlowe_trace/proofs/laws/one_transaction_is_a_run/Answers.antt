use Rattle.marlowe_trace.proofs.RunLemmas.{one_is_a_run}
use Rattle.marlowe_trace.proofs.laws.one_transaction_is_a_run.Goals as goal

pub returns : goal.returns
returns c = one_is_a_run
