use Rattle.explain_transactions.proofs.SettledLemmas.{waiting_is_settled}
use Rattle.explain_transactions.proofs.laws.waiting_is_settled.Goals as goal

pub returns : goal.returns
returns c = waiting_is_settled
