use Rattle.std.proofs.Common.{drop}
use Rattle.roles.specs.Steps.{due_outputs}
use Rattle.roles.proofs.PutLaws.{IsPut}
use Rattle.roles.proofs.owing.put_due.Given as goal

abbrev pub invariant-loop-payment : goal.invariant-loop-payment
invariant-loop-payment l = IsPut (due_outputs l.currency l.payments) (due_outputs l.currency (drop l.payment-index l.payments)) l.fn.outputs l.outputs
