use Rattle.std.proofs.Common.{◌≡◌, length, take}
use Rattle.chain_index.proofs.outputs.truncate.Given as goal

abbrev pub invariant-loop-outputs : goal.invariant-loop-outputs
invariant-loop-outputs l = take l.len l.outputs ≡ take l.len l.fn.outputs

abbrev pub decreases-loop-outputs : goal.decreases-loop-outputs
decreases-loop-outputs l = length l.outputs
