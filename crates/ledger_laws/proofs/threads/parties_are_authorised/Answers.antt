use Rattle.ledger_laws.proofs.AuthorisedLemmas.{parties_are_authorised}
use Rattle.ledger_laws.proofs.threads.parties_are_authorised.Goals as goal

pub returns : goal.returns
returns c = parties_are_authorised c.found_is_enough.ensures
