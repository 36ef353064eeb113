use Rattle.trace.proofs.PathsLemmas.{transactions_lead, openings_lead}
use Rattle.trace.proofs.laws.paths_lead.Goals as goal

pub returns : goal.returns
returns c = record { transactions = transactions_lead; opening = openings_lead }
