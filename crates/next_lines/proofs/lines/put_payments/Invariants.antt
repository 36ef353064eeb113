use Rattle.std.proofs.Common.{◌≡◌, ◌++◌, take}
use Rattle.std.specs.Prelude.{flat_map}
use Rattle.next_lines.specs.Lines.{payment_line}
use Rattle.next_lines.proofs.lines.put_payments.Given as goal

abbrev pub invariant-loop-payment : goal.invariant-loop-payment
invariant-loop-payment l = l.out.items ≡ l.fn.out.items ++ flat_map payment_line (take l.payment-index l.payments)
