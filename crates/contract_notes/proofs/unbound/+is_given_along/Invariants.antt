use Rattle.std.proofs.Common.{length}
use Rattle.contract_notes.proofs.unbound.+is_given_along.Given as goal

abbrev pub decreases-is_given_along : goal.decreases-is_given_along
decreases-is_given_along l = length l.steps.now
