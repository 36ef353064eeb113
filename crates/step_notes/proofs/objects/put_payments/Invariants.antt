use Rattle.std.proofs.Common.{◌≡◌, ◌++◌, drop, string_bytes}
use Rattle.step_notes.specs.StepObjects.{payment_objects}
use Rattle.step_notes.proofs.objects.put_payments.Given as goal

abbrev pub invariant-loop-index : goal.invariant-loop-index
invariant-loop-index l = string_bytes l.out ++ payment_objects l.index (drop l.index l.payments) ≡ string_bytes l.fn.out ++ payment_objects 0 l.payments
