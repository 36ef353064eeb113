use Rattle.semantics.proofs.AfterLast.{closes_after_last, spent_is_useless}
use Rattle.semantics.proofs.laws.contracts_close_after_the_last_timeout.Goals as goal

pub returns : goal.returns
returns c = record { closes = closes_after_last; spent = spent_is_useless }
