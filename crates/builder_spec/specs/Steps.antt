-- A thread, and what a step of it needs, spends and makes.
use Rattle.std.specs.Prelude.{ℕ, ℤ, pos, int_lt, Bool, not, ◌&&◌, if◌then◌else◌, List, [], ◌∷◌, ◌++◌, map, Option, Some, None, option_map, Result, Ok, Err}
use Rattle.std.specs.List.{filter_map, find}
use Rattle.contract.specs.Names.declared.party.Party.{Party}
use Rattle.contract.specs.Names.declared.party.Party.TheVariants.{Address, Role}
use Rattle.contract.specs.Names.declared.token.Token.{Token}
use Rattle.contract.specs.declared.fault.SemFault.{SemFault}
use Rattle.contract.specs.declared.input.Input.{Input}
use Rattle.contract.specs.declared.input.Input.TheVariants.{Deposit}
use Rattle.contract.specs.declared.interval.Interval.{Interval}
use Rattle.ledger.specs.Semantics.Walk.{Standing, Walk, answer_of}
use Rattle.ledger.specs.Semantics.Computed.{computed}
use Rattle.ledger.specs.Table.Flat.{is_close}
use Rattle.ledger.specs.Machine.declared.datum.Datum.{Datum}
use Rattle.ledger.specs.EutxoTypes.declared.output.Output.{Output}
use Rattle.ledger.specs.EutxoTypes.Digests.{datum_hash}
use Rattle.ledger.specs.EutxoTypes.Parts.{same_bytes, contract_in, ContractLock}
use Rattle.ledger.specs.Eutxo.Rules.{has_signed}
use Rattle.ledger.specs.Roles.Sums.{sums_of}
use Rattle.ledger.specs.Roles.Terms.{Terms, terms_of}
use Rattle.ledger.specs.Roles.Steps.{same_amounts, role_token, actor, continuation, due_outputs, next_datum}
use Rattle.ledger.specs.declared.look.Look.{Look}
use Rattle.ledger.specs.declared.look.ThreadOutput.{ThreadOutput}
use Rattle.ledger.specs.declared.look.Unspent.{Unspent}
use Rattle.builder_spec.specs.declared.fault.BuildFault.{BuildFault}
use Rattle.builder_spec.specs.declared.fault.BuildFault.TheVariants.{Semantics, NotAuthorised}
use Rattle.builder_spec.specs.Requests.{StepRequest}
use Rattle.builder_spec.specs.Holding.{holds_token}
use Rattle.builder_spec.specs.Fronts.{front}

-- ---- the thread

-- a thread's output with its datum, which is the one that its maker brought
pub record Thread : Type 0 where
  pub shown : ThreadOutput
  pub datum : Datum

abbrev pub thread_terms : Thread → Terms
thread_terms e = terms_of e.shown.published

-- a thread, and the inputs that it is given
pub record Stepped : Type 0 where
  pub thread : Thread
  pub inputs : List Input

-- its script is what is published there, it holds the datum's digest, the datum's number is in the table, and it holds exactly
-- the sums of its accounts
abbrev pub is_current : ThreadOutput → ContractLock → Bool
is_current t c =
    same_bytes c.script t.published.id
    && (same_bytes (datum_hash t.datum) c.digest && ((terms_of t.published).has t.datum.cont && same_amounts t.output.amount (sums_of t.datum.state)))

abbrev pub thread_in : ThreadOutput → Option ContractLock → Option Thread
thread_in t None = None
thread_in t (Some c) = if is_current t c then Some (record { shown = t; datum = t.datum }) else None

abbrev pub thread_of : Option ThreadOutput → Option Thread
thread_of None = None
thread_of (Some t) = thread_in t (contract_in t.output.lock)

-- the thread that a look shows, where it stands so
abbrev pub look_thread : Look → Option Thread
look_thread look = thread_of look.thread

-- ---- what the contract makes of the request

abbrev pub stepped_walk : Interval → Stepped → Walk
stepped_walk i s = computed i s.thread.datum.state ((thread_terms s.thread).tree s.thread.datum.cont) s.inputs

abbrev pub stepped : StepRequest → Thread → Stepped
stepped r e = record { thread = e; inputs = r.inputs }

abbrev pub step_walk : StepRequest → Thread → Walk
step_walk r e = stepped_walk r.interval (stepped r e)

-- 2: the transaction function refuses
abbrev pub semantics_cause : Result Standing SemFault → Option BuildFault
semantics_cause (Ok a) = None
semantics_cause (Err f) = Some (Semantics f)

-- ---- what the inputs need

-- the token of a role; an address has none
abbrev pub token_of : List ℕ → Party → Option Token
token_of currency (Address a) = None
token_of currency (Role r) = Some (role_token currency r)

abbrev pub roles_of : List ℕ → List Input → List Token
roles_of currency xs = filter_map (token_of currency) (filter_map actor xs)

-- what an input deposits, where that is above 0
abbrev pub deposit_of : Input → Option (Token × ℤ)
deposit_of (Deposit account party token amount) = if int_lt (pos 0) amount then Some (token, amount) else None
deposit_of _ = None

abbrev pub deposits : List Input → List (Token × ℤ)
deposits xs = filter_map deposit_of xs

-- an address acts by its signature, a role by its token in what is offered
abbrev pub may_act : List ℕ → List (List ℕ) → List Unspent → Party → Bool
may_act currency signers offered (Address a) = has_signed signers a
may_act currency signers offered (Role r) = holds_token offered (role_token currency r)

-- of the parties that inputs need, in order, the first that may not act
abbrev pub first_barred : (Party → Bool) → List Input → Option Party
first_barred may xs = find (λ p. not (may p)) (filter_map actor xs)

-- 4: there is one
abbrev pub authority_cause : List ℕ → List (List ℕ) → List Unspent → List Input → Option BuildFault
authority_cause currency signers offered xs = option_map NotAuthorised (first_barred (may_act currency signers offered) xs)

-- ---- what is spent

abbrev pub step_front : StepRequest → Thread → List Unspent
step_front r e = front (roles_of e.shown.published.currency r.inputs) (deposits r.inputs) r.offered

-- the thread's output
abbrev pub own_output : Thread → Unspent
own_output e = record { reference = e.shown.reference; output = e.shown.output }

abbrev pub step_spent : StepRequest → Thread → List Unspent
step_spent r e = own_output e ∷ step_front r e

-- ---- what is made: the contract goes on, unless it is Close, and the payments follow that are due

-- the datum from which the contract goes on, unless it is Close
abbrev pub next_data : Thread → Walk → Standing → List Datum
next_data e w a = if is_close a.contract then [] else next_datum (thread_terms e) e.datum w a.state ∷ []

abbrev pub continuing_outputs : Thread → Walk → Standing → List Output
continuing_outputs e w a = map (continuation e.shown.published.id) (next_data e w a)

abbrev pub step_outputs_of : Thread → Walk → Result Standing SemFault → List Output
step_outputs_of e w (Ok a) = continuing_outputs e w a ++ due_outputs e.shown.published.currency w.payments
step_outputs_of e w (Err f) = []

abbrev pub step_outputs : StepRequest → Thread → List Output
step_outputs r e = step_outputs_of e (step_walk r e) (answer_of (step_walk r e))

abbrev pub next_data_of : Thread → Walk → Result Standing SemFault → List Datum
next_data_of e w (Ok a) = next_data e w a
next_data_of e w (Err f) = []
