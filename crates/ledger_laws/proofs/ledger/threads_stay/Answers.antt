use Rattle.ledger_laws.proofs.LaterLemmas.{threads_stay}
use Rattle.ledger_laws.proofs.ledger.threads_stay.Goals as goal

pub returns : goal.returns
returns g c = threads_stay g.V.Validator.judges c.found_is_enough.ensures c.blocks_tell_contracts_apart.ensures.stay
