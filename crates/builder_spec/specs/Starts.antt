-- Starts of a contract: what hinders one, and how it is laid out.
use Rattle.std.specs.Prelude.{ℤ, Bool, if◌then◌else◌, List, [], ◌∷◌, map, Option, Some}
use Rattle.std.specs.FinMap.{entries, empty}
use Rattle.contract.specs.Names.declared.token.Token.{Token}
use Rattle.contract.specs.Names.Equal.{ada}
use Rattle.contract.specs.States.States.{StateMaps}
use Rattle.ledger.specs.EutxoTypes.declared.output.Output.{Output}
use Rattle.ledger.specs.EutxoTypes.declared.tx.Tx.{Tx}
use Rattle.ledger.specs.Eutxo.Faults.{first_of, is_empty}
use Rattle.ledger.specs.Machine.declared.datum.Datum.{Datum}
use Rattle.ledger.specs.Roles.Steps.{continuation}
use Rattle.ledger.specs.declared.look.Unspent.{Unspent}
use Rattle.builder_spec.specs.declared.fault.BuildFault.{BuildFault}
use Rattle.builder_spec.specs.declared.fault.BuildFault.TheVariants.{NoFunds}
use Rattle.builder_spec.specs.Requests.{StartRequest}
use Rattle.builder_spec.specs.Fronts.{shortest, some_suffice}
use Rattle.builder_spec.specs.Causes.{signature_cause, funds_cause, limit_cause, repeat_cause}
use Rattle.builder_spec.specs.Laying.{by_key, paid_to, rest}

-- of the state that is handed in, the accounts and the minimum time
abbrev pub fresh_state : StateMaps → StateMaps
fresh_state s = record { accounts = s.accounts; choices = empty; bound_values = empty; min_time = s.min_time }

-- what the accounts have
abbrev pub accounts_of : StateMaps → List (Token × ℤ)
accounts_of s = map (λ e. (e.0.token, e.1)) (entries s.accounts)

-- the shortest front that covers the accounts and has one output at least
abbrev pub covers_accounts : StateMaps → List Unspent → Bool
covers_accounts s us = some_suffice (accounts_of s) us

abbrev pub start_front : StartRequest → List Unspent
start_front r = shortest (covers_accounts r.state) r.offered

-- 5: the least token of which less is offered than the accounts have; ada where nothing is offered
abbrev pub start_funds_cause : StartRequest → Option BuildFault
start_funds_cause r = if is_empty r.offered then Some (NoFunds ada) else funds_cause (accounts_of r.state) r.offered

-- WHAT HINDERS A START: the first clause that fails
abbrev pub hinders_start : StartRequest → Option BuildFault
hinders_start r = first_of (signature_cause r.signers r.offered ∷ start_funds_cause r ∷ limit_cause (start_front r) ∷ repeat_cause r.offered ∷ [])

-- the datum of a start: at the root
abbrev pub start_datum : StartRequest → Datum
start_datum r = record { cont = r.published.root; state = fresh_state r.state }

-- the contract's output, with the sums of the accounts
abbrev pub start_output : StartRequest → Output
start_output r = continuation r.published.id (start_datum r)

-- ITS LAYOUT: the front is spent; the contract's output, and then the change. Its datum is brought
abbrev pub layout_start : StartRequest → Tx
layout_start r = record {
  inputs = map by_key (start_front r);
  outputs = start_output r ∷ paid_to r.change (rest (start_front r) (start_output r ∷ []));
  interval = r.interval;
  signers = r.signers;
  datums = start_datum r ∷ [];
}
