use Rattle.ledger_spec.specs.Roles.Steps.{marlowe}
use Rattle.chain_index.proofs.PastLemmas.{accepts_alike, places_alike, can_be_added}
use Rattle.chain_index.proofs.laws.index_accepts_alike.Goals as goal

pub returns-clause-alike : goal.returns-clause-alike
returns-clause-alike c = accepts_alike c.found_is_enough.ensures c.accepting_is_sound.ensures c.threads_stay.ensures

pub returns-clause-places : goal.returns-clause-places
returns-clause-places c = places_alike c.found_is_enough.ensures c.found_tells_places.ensures c.accepting_is_sound.ensures c.threads_stay.ensures

pub returns-clause-added : goal.returns-clause-added
returns-clause-added c = can_be_added marlowe c.found_is_enough.ensures
