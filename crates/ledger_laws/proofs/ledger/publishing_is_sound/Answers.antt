use Rattle.ledger_laws.proofs.LaterLemmas.{later_is_sound}
use Rattle.ledger_laws.proofs.ledger.publishing_is_sound.Goals as goal

pub returns : goal.returns
returns g c = later_is_sound g.V.Validator.judges c.found_is_enough.ensures c.blocks_tell_contracts_apart.ensures.stay
