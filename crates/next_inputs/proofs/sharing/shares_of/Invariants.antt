use Rattle.std.proofs.Common.{◌≡◌, length, drop}
use Rattle.next_inputs.proofs.Shares.{SharesSoFar}
use Rattle.next_inputs.proofs.sharing.shares_of.Given as goal

abbrev pub invariant-loop-claim : goal.invariant-loop-claim
invariant-loop-claim l = record {
  each : length l.shares.items ≡ l.count;
  so_far : SharesSoFar l.shares.items l.settled (drop l.claim-index l.settled);
}
