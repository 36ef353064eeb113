use Rattle.chain_index.proofs.DataLemmas.{data_alike}
use Rattle.chain_index.proofs.laws.index_tells_data.Goals as goal

pub returns : goal.returns
returns c = data_alike
