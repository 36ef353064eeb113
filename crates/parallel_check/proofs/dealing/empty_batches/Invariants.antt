use Rattle.std.proofs.Common.{◌≡◌, ℕ, [], length, get_or}
use Rattle.parallel_check.proofs.dealing.empty_batches.Given as goal

abbrev pub invariant-loop : goal.invariant-loop
invariant-loop g l = (length l.batches.items ≡ l.counter) × ((w : ℕ) → get_or l.batches.items w [] ≡ [])
