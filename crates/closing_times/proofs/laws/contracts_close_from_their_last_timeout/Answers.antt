use Rattle.closing_times.proofs.RunLemmas.{closes_from_last}
use Rattle.closing_times.proofs.laws.contracts_close_from_their_last_timeout.Goals as goal

pub returns : goal.returns
returns c = closes_from_last c.contracts_close_after_the_last_timeout.ensures.closes c.turns_lead_to_the_remaining_contract.ensures
