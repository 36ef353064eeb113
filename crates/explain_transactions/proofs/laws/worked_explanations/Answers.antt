use Rattle.explain_transactions.proofs.Worked.{second_is_unmatched, timeout_is_inside, sum_is_told}
use Rattle.explain_transactions.proofs.laws.worked_explanations.Goals as goal

pub returns : goal.returns
returns c = record { unmatched = second_is_unmatched; ambiguous = timeout_is_inside; sum = sum_is_told }
