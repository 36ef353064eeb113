use Rattle.std.proofs.Common.{◌≡◌, ◌++◌, drop, string_bytes}
use Rattle.step_notes.specs.StepLines.{payment_lines}
use Rattle.step_notes.proofs.steps.put_payments.Given as goal

abbrev pub invariant-loop-payment : goal.invariant-loop-payment
invariant-loop-payment l = string_bytes l.out ++ payment_lines (drop l.payment-index l.payments) ≡ string_bytes l.fn.out ++ payment_lines l.payments
