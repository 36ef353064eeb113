use Rattle.contract_notes.proofs.ComingLemmas.{known_is_there}
use Rattle.contract_notes.proofs.laws.known_is_there.Goals as goal

pub returns : goal.returns
returns c = known_is_there
