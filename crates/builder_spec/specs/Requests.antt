-- What is asked of a builder.
use Rattle.std.specs.Prelude.{ℕ, List, [], ◌∷◌}
use Rattle.contract.specs.declared.input.Input.{Input}
use Rattle.contract.specs.declared.interval.Interval.{Interval}
use Rattle.contract.specs.States.States.{StateMaps}
use Rattle.ledger.specs.Roles.declared.published.Published.{Published}
use Rattle.ledger.specs.declared.look.Look.{Look}
use Rattle.ledger.specs.declared.look.Unspent.{Unspent}

-- a step of the thread that a look shows, with the outputs that are offered, and the address to which the change goes
pub record StepRequest : Type 0 where
  pub interval : Interval
  pub inputs : List Input
  pub signers : List (List ℕ)
  pub offered : List Unspent
  pub change : List ℕ

abbrev pub request : Interval → List Input → List (List ℕ) → List Unspent → List ℕ → StepRequest
request interval inputs signers offered change = record { interval = interval; inputs = inputs; signers = signers; offered = offered; change = change }

-- a part of steps in one transaction: a thread that a look shows, and the inputs that it is given
pub record Part : Type 0 where
  pub look : Look
  pub inputs : List Input

-- steps of the threads of several parts, with the outputs that are offered, and the address to which the change goes
pub record StepsRequest : Type 0 where
  pub parts : List Part
  pub interval : Interval
  pub signers : List (List ℕ)
  pub offered : List Unspent
  pub change : List ℕ

abbrev pub steps_request : List Part → Interval → List (List ℕ) → List Unspent → List ℕ → StepsRequest
steps_request parts interval signers offered change = record { parts = parts; interval = interval; signers = signers; offered = offered; change = change }

-- a step of one thread, as a request of one part
abbrev pub one_part : Look → StepRequest → StepsRequest
one_part look r = record { parts = record { look = look; inputs = r.inputs } ∷ []; interval = r.interval; signers = r.signers; offered = r.offered; change = r.change }

-- a start of what is published, with the accounts and the minimum time of a state
pub record StartRequest : Type 0 where
  pub published : Published
  pub state : StateMaps
  pub interval : Interval
  pub signers : List (List ℕ)
  pub offered : List Unspent
  pub change : List ℕ

abbrev pub start_request : Published → StateMaps → Interval → List (List ℕ) → List Unspent → List ℕ → StartRequest
start_request published state interval signers offered change = record { published = published; state = state; interval = interval; signers = signers; offered = offered; change = change }

-- a claim of payouts, and the address to which they go
pub record ClaimRequest : Type 0 where
  pub payouts : List Unspent
  pub interval : Interval
  pub signers : List (List ℕ)
  pub offered : List Unspent
  pub to : List ℕ
  pub change : List ℕ

abbrev pub claim_request : List Unspent → Interval → List (List ℕ) → List Unspent → List ℕ → List ℕ → ClaimRequest
claim_request payouts interval signers offered to change = record { payouts = payouts; interval = interval; signers = signers; offered = offered; to = to; change = change }
