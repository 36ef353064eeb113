use Rattle.chain_index.proofs.PastLemmas.{publishes_alike}
use Rattle.chain_index.proofs.laws.index_publishes_alike.Goals as goal

pub returns : goal.returns
returns c = publishes_alike c.threads_stay.ensures
