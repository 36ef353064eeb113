use Rattle.std.proofs.Common.{◌≡◌, ◌+ℤ◌, drop}
use Rattle.reached_bounds.specs.ReachedSupport.{brought_by_all}
use Rattle.reached_bounds.proofs.sums.brought.Given as goal

abbrev pub invariant-loop-transaction : goal.invariant-loop-transaction
invariant-loop-transaction l = brought_by_all l.party l.token l.run ≡ l.sum +ℤ brought_by_all l.party l.token (drop l.transaction-index l.run)
