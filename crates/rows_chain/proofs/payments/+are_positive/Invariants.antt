use Rattle.std.proofs.Common.{length}
use Rattle.rows_chain.proofs.payments.+are_positive.Given as goal

abbrev pub decreases-are_positive : goal.decreases-are_positive
decreases-are_positive l = length l.entries.now
