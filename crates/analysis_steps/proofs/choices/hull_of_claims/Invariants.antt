use Rattle.analysis_steps.proofs.ChosenLemmas.{IsClaimedBefore}
use Rattle.analysis_steps.proofs.choices.hull_of_claims.Given as goal

abbrev pub invariant-loop-claim : goal.invariant-loop-claim
invariant-loop-claim l = IsClaimedBefore l.claims l.claim-index l.range
