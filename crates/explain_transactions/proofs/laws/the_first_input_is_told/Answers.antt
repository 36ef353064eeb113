use Rattle.explain_transactions.proofs.RefusedLemmas.{first_is_told}
use Rattle.explain_transactions.proofs.laws.the_first_input_is_told.Goals as goal

pub returns : goal.returns
returns c = first_is_told
