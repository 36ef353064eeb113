use Rattle.std.proofs.Common.{◌≡◌, ◌++◌, take}
use Rattle.next_inputs.specs.Claiming.{claims_for}
use Rattle.next_inputs.proofs.claiming.put_claims.Given as goal

abbrev pub invariant-loop-bound : goal.invariant-loop-bound
invariant-loop-bound l = l.claims.items ≡ l.fn.claims.items ++ claims_for l.lane l.by (take l.bound-index l.bounds)
