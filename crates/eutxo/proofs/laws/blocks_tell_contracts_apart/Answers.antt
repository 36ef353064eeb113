use Rattle.eutxo.proofs.AlikeLemmas.{blocks_are_alike, blocks_stay}
use Rattle.eutxo.proofs.BlockLawLemmas.{blocks_tell}
use Rattle.eutxo.proofs.laws.blocks_tell_contracts_apart.Goals as goal

pub returns-clause-tell : goal.returns-clause-tell
returns-clause-tell g c = blocks_tell g.V.Validator.judges

pub returns-clause-alike : goal.returns-clause-alike
returns-clause-alike g c = blocks_are_alike g.V.Validator.judges

pub returns-clause-stay : goal.returns-clause-stay
returns-clause-stay g c = blocks_stay g.V.Validator.judges
