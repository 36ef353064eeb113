use Rattle.std.proofs.Common.{◌≡◌, ℕ, length, get_or}
use Rattle.alike_alarms.proofs.heads.zeros.Given as goal

abbrev pub invariant-loop : goal.invariant-loop
invariant-loop l = (length l.all.items ≡ l.counter) × ((k : ℕ) → get_or l.all.items k 0 ≡ 0)
