-- Closing a thread after its last timeout: the step that anyone can build, and what comes of it.
use Rattle.std.specs.Prelude.{◌≡◌, ℕ, List, [], ◌⊎◌, Option, Some, None, Ok}
use Rattle.contract.specs.Names.declared.token.Token.{Token}
use Rattle.contract.specs.declared.fault.SemFault.TheVariants.{Useless, Leaves128}
use Rattle.contract.specs.declared.interval.Interval.{Interval}
use Rattle.ledger.specs.Semantics.Walk.{Standing, answer_of}
use Rattle.ledger.specs.Semantics.Money.{paid_out}
use Rattle.ledger.specs.Semantics.Closing.{IsSpent}
use Rattle.ledger.specs.Bundle.Bundles.{amount_of}
use Rattle.builder_spec.specs.declared.fault.BuildFault.{BuildFault}
use Rattle.builder_spec.specs.declared.fault.BuildFault.TheVariants.{Semantics}
use Rattle.builder_spec.specs.Requests.{StepRequest}
use Rattle.builder_spec.specs.Steps.{Thread, thread_terms, step_walk}

-- a step without inputs and offers
abbrev pub closing : Interval → List (List ℕ) → List ℕ → StepRequest
closing i signers change = record { interval = i; inputs = []; signers = signers; offered = []; change = change }

-- nothing hinders it: Close without accounts remains, and the parties are paid all that the output held; or a number leaves 128
-- bits; or there is nothing to do, since that is what stands
abbrev pub Closes : StepRequest → Thread → Option BuildFault → Type 0
Closes r e None = (a : Standing) × (answer_of (step_walk r e) ≡ Ok a) × IsSpent a.state a.contract × ((t : Token) → paid_out t (step_walk r e).payments ≡ amount_of e.shown.output.amount t)
Closes r e (Some f) = (f ≡ Semantics Leaves128) ⊎ ((f ≡ Semantics Useless) × IsSpent e.datum.state ((thread_terms e).tree e.datum.cont))
