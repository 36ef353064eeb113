use Rattle.ledger_spec.proofs.StandingLemmas.{histories_stand}
use Rattle.ledger_spec.proofs.laws.legal_histories_stand.Goals as goal

pub returns : goal.returns
returns c = histories_stand
