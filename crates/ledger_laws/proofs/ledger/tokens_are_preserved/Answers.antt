use Rattle.ledger_laws.proofs.PreservedLemmas.{tokens_are_preserved}
use Rattle.ledger_laws.proofs.ledger.tokens_are_preserved.Goals as goal

pub returns : goal.returns
returns g c = tokens_are_preserved g.V.Validator.judges c.found_is_enough.ensures c.sums_are_preserved.ensures.same
