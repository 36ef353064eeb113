use Rattle.ledger_laws.proofs.ThreadLaws.{contracts_end, ends_are_unspent}
use Rattle.ledger_laws.proofs.ledger.contracts_end_threads.Goals as goal

pub returns-clause-thread : goal.returns-clause-thread
returns-clause-thread g c = contracts_end g.V.Validator.judges c.found_is_enough.ensures c.blocks_tell_contracts_apart.ensures.tell

pub returns-clause-unspent : goal.returns-clause-unspent
returns-clause-unspent g c = ends_are_unspent g.V.Validator.judges c.found_is_enough.ensures c.blocks_tell_contracts_apart.ensures.tell
