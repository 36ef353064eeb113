use Rattle.std.proofs.Common.{◌≡◌, ◌+ℤ◌, drop}
use Rattle.analysis_spec.specs.Runs.{paid_to}
use Rattle.reached_bounds.proofs.sums.paid.Given as goal

abbrev pub invariant-loop-payment : goal.invariant-loop-payment
invariant-loop-payment l = paid_to l.party l.token l.payments ≡ l.sum +ℤ paid_to l.party l.token (drop l.payment-index l.payments)
