use Rattle.std.proofs.Common.{◌≡◌, drop}
use Rattle.roles.specs.Steps.{first_unpaid, due_outputs}
use Rattle.roles.proofs.owing.unpaid_index.Given as goal

abbrev pub invariant-loop-payment : goal.invariant-loop-payment
invariant-loop-payment l = first_unpaid l.from (due_outputs l.currency l.payments) (drop l.from l.outputs) ≡ first_unpaid l.place (due_outputs l.currency (drop l.payment-index l.payments)) (drop l.place l.outputs)
