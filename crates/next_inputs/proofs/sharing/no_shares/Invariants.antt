use Rattle.std.proofs.Common.{◌≡◌, [], length}
use Rattle.next_inputs.specs.Claiming.{AreShares}
use Rattle.next_inputs.proofs.sharing.no_shares.Given as goal

abbrev pub invariant-loop-index : goal.invariant-loop-index
invariant-loop-index l = record {
  each : length l.shares.items ≡ l.index;
  none : AreShares l.shares.items [];
}
