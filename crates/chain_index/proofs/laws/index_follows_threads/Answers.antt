use Rattle.chain_index.proofs.PastLemmas.{starts_alike}
use Rattle.chain_index.proofs.ThreadLemmas.{threads_alike, ends_alike}
use Rattle.chain_index.proofs.laws.index_follows_threads.Goals as goal

pub returns-clause-threads : goal.returns-clause-threads
returns-clause-threads c = threads_alike c.found_is_enough.ensures

pub returns-clause-ends : goal.returns-clause-ends
returns-clause-ends c = ends_alike c.found_is_enough.ensures

pub returns-clause-starts : goal.returns-clause-starts
returns-clause-starts c past r = starts_alike past.accepted r
