use Rattle.std.proofs.Common.{◌≡◌, ℕ, ◌+◌, ◌≤◌, List, drop, length}
use Rattle.roles.specs.Steps.{due_outputs}
use Rattle.roles.proofs.owing.due_count.Given as goal

abbrev pub invariant-loop-payment : goal.invariant-loop-payment
invariant-loop-payment l = record {
  left : (currency : List ℕ) → l.count + length (due_outputs currency (drop l.payment-index l.payments)) ≡ length (due_outputs currency l.payments);
  few : l.count ≤ l.payment-index;
}
