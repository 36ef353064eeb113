use Rattle.ledger_laws.proofs.SingleLemmas.{names_are_single}
use Rattle.ledger_laws.proofs.ledger.names_are_single.Goals as goal

pub returns : goal.returns
returns g c = names_are_single g.V.Validator.judges c.found_is_enough.ensures
