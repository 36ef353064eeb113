use Rattle.ledger_laws.proofs.ThreadLaws.{steps_stand, contracts_are_stepped, steps_are_of_contracts}
use Rattle.ledger_laws.proofs.ledger.steps_stand_on_threads.Goals as goal

pub returns-clause-thread : goal.returns-clause-thread
returns-clause-thread g c = steps_stand g.V.Validator.judges c.found_is_enough.ensures c.blocks_tell_contracts_apart.ensures.tell

pub returns-clause-spends : goal.returns-clause-spends
returns-clause-spends g c = contracts_are_stepped g.V.Validator.judges c.found_is_enough.ensures

pub returns-clause-names : goal.returns-clause-names
returns-clause-names g c = steps_are_of_contracts g.V.Validator.judges c.found_is_enough.ensures
