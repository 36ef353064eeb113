-- What is left for the change.
use Rattle.std.specs.Prelude.{◌≡◌, ◌-ℤ◌, ◌≤ℤ◌, [], ◌∷◌, Some, None}
use Rattle.std.specs.FinMap.{entries}
use Rattle.contract.specs.Names.declared.token.Token.{Token}
use Rattle.contract.specs.States.States as states
use Rattle.contract.specs.States.States.{AllPositive}
use Rattle.ledger.specs.Semantics.Money.{deposited}
use Rattle.ledger.specs.Bundle.Bundles.{amount_of}
use Rattle.ledger.specs.Bundle.Totals.{total_of}
use Rattle.ledger.specs.declared.look.Look.{Look}
use Rattle.builder_spec.specs.Requests.{StepRequest, StartRequest}
use Rattle.builder_spec.specs.Holding.{amount_in, AreBundles}
use Rattle.builder_spec.specs.Laying.{rest}
use Rattle.builder_spec.specs.Parts.{hinders_step}
use Rattle.builder_spec.specs.Steps.{Thread, look_thread, step_front, step_spent, step_outputs}
use Rattle.builder_spec.specs.Starts.{start_front, start_output, hinders_start}

-- THE CHANGE OF A STEP that nothing hinders is, token by token, what its front holds above the deposits, and that is never below 0. (The
-- accounts, and what the offers hold, are above 0, as in all states and bundles.)
abbrev pub StepChangeIsTheRest : Type 0
StepChangeIsTheRest = (look : Look) (r : StepRequest) (e : Thread) (t : Token) → look_thread look ≡ Some e → hinders_step look r ≡ None → AllPositive (entries e.datum.state.accounts) → AreBundles amount_in r.offered →
    (amount_of (rest (step_spent r e) (step_outputs r e)) t ≡ total_of amount_in t (step_front r e) -ℤ deposited t r.inputs) × (deposited t r.inputs ≤ℤ total_of amount_in t (step_front r e))

-- and that of a start what its front holds above the accounts
abbrev pub StartChangeIsTheRest : Type 0
StartChangeIsTheRest = (r : StartRequest) (t : Token) → hinders_start r ≡ None → AreBundles amount_in r.offered →
    (amount_of (rest (start_front r) (start_output r ∷ [])) t ≡ total_of amount_in t (start_front r) -ℤ states.total_of t r.state) × (states.total_of t r.state ≤ℤ total_of amount_in t (start_front r))
