use Rattle.ledger_spec.proofs.StartsLaws.{starts_told}
use Rattle.ledger_spec.proofs.laws.starts_are_told.Goals as goal

pub returns : goal.returns
returns c = starts_told
