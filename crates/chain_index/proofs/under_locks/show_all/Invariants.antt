use Rattle.std.proofs.Common.{◌≡◌, ◌++◌, length}
use Rattle.chain_index.specs.UnderLocksSupport.{rows_at}
use Rattle.chain_index.proofs.under_locks.show_all.Given as goal

abbrev pub invariant-loop-place : goal.invariant-loop-place
invariant-loop-place l = l.shown ++ rows_at l.outputs l.left.keys ≡ rows_at l.outputs l.fn.places.keys

abbrev pub decreases-loop-place : goal.decreases-loop-place
decreases-loop-place l = length l.left.keys
