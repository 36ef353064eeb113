use Rattle.refusal_objects.proofs.RowLemmas.{numbered_refusal}
use Rattle.refusal_objects.proofs.worked.worked_objects.Goals as goal

pub returns-clause-numbered : goal.returns-clause-numbered
returns-clause-numbered c = numbered_refusal
