use Rattle.ledger_laws.proofs.FundedLemmas.{contracts_are_funded, contracts_are_of_tables}
use Rattle.ledger_laws.proofs.threads.contracts_are_funded.Goals as goal

pub returns-clause-sums : goal.returns-clause-sums
returns-clause-sums c = contracts_are_funded c.found_is_enough.ensures c.blocks_tell_contracts_apart.ensures.tell

pub returns-clause-number : goal.returns-clause-number
returns-clause-number c = contracts_are_of_tables c.turns_lead_to_the_remaining_contract.ensures c.found_is_enough.ensures c.blocks_tell_contracts_apart.ensures.tell
