use Rattle.ledger_spec.proofs.PublishingLemmas.{are_entries, found_at_last, tell_contracts, in_use}
use Rattle.ledger_spec.proofs.laws.publications_are_entries.Goals as goal

pub returns-clause-published : goal.returns-clause-published
returns-clause-published c = are_entries c.published_are_tables.ensures

pub returns-clause-stands : goal.returns-clause-stands
returns-clause-stands c = found_at_last

pub returns-clause-told_apart : goal.returns-clause-told_apart
returns-clause-told_apart c = tell_contracts c.published_tell_contracts_apart.ensures

pub returns-clause-in_use : goal.returns-clause-in_use
returns-clause-in_use c = in_use
