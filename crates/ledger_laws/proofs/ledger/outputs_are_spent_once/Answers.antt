use Rattle.ledger_laws.proofs.SpentOnceLemmas.{outputs_are_spent_once}
use Rattle.ledger_laws.proofs.ledger.outputs_are_spent_once.Goals as goal

pub returns : goal.returns
returns g c = outputs_are_spent_once g.V.Validator.judges c.found_is_enough.ensures
