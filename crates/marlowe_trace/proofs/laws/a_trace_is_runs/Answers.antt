use Rattle.marlowe_trace.proofs.RunLemmas.{trace_is_runs}
use Rattle.marlowe_trace.proofs.laws.a_trace_is_runs.Goals as goal

pub returns : goal.returns
returns c = trace_is_runs
