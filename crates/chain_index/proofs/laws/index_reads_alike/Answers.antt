use Rattle.chain_index.proofs.PastLemmas.{reads_alike}
use Rattle.chain_index.proofs.laws.index_reads_alike.Goals as goal

pub returns : goal.returns
returns c = reads_alike
