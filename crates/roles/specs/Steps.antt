-- How Marlowe's script judges a step, tells a start and grants a payout.
use Rattle.std.specs.Prelude.{ℕ, ◌+◌, ℤ, pos, int_lt, ◌==◌, Bool, true, false, not, ◌&&◌, ◌||◌, if◌then◌else◌, List, [], ◌∷◌, length, slice_get, Option, Some, None, option_map, Result, Ok, Err}
use Rattle.std.specs.List.{list_any, filter_map, find}
use Rattle.std.specs.FinMap as map
use Rattle.std.specs.FinMap.{entries}
use Rattle.contract.specs.Collections.Same.{same_by}
use Rattle.contract.specs.Names.declared.party.Party.{Party}
use Rattle.contract.specs.Names.declared.party.Party.TheVariants.{Address, Role}
use Rattle.contract.specs.Names.declared.payee.Payee.{Payee}
use Rattle.contract.specs.Names.declared.payee.Payee.TheVariants as to
use Rattle.contract.specs.Names.declared.token.Token.{Token}
use Rattle.contract.specs.declared.fault.SemFault.{SemFault}
use Rattle.contract.specs.declared.fault.SemFault.TheVariants.{NoMatch}
use Rattle.contract.specs.declared.input.Input.{Input}
use Rattle.contract.specs.declared.input.Input.TheVariants.{Deposit, Choice, Notify}
use Rattle.contract.specs.declared.payment.Payment.{Payment}
use Rattle.contract.specs.States.States.{StateMaps}
use Rattle.eutxo.specs.Semantics.Walk.{Standing, Walk, answer_of}
use Rattle.eutxo.specs.Semantics.Computed.{computed}
use Rattle.eutxo.specs.Bundle.Bundles.{Amounts, amount_of}
use Rattle.eutxo.specs.Bundle.contracts.bundle.Bundle as bundles
use Rattle.compiler.specs.Nodes.declared.cont.Cont.{Cont}
use Rattle.eutxo.specs.Machine.declared.datum.Datum.{Datum}
use Rattle.eutxo.specs.Machine.contracts.datum.Datum as datums
use Rattle.contract.specs.Names.Equal.{same_bytes}
use Rattle.eutxo.specs.declared.step_fault.StepFault.{StepFault}
use Rattle.eutxo.specs.declared.step_fault.StepFault.TheVariants.{NotAuthorised, WrongContinuation, WrongPayment}
use Rattle.eutxo.specs.EutxoTypes.declared.lock.Lock.{Lock}
use Rattle.eutxo.specs.EutxoTypes.declared.lock.Lock.TheVariants.{Key, Payout, Contract}
use Rattle.eutxo.specs.EutxoTypes.declared.output.Output.{Output}
use Rattle.eutxo.specs.EutxoTypes.contracts.output.Output as outputs
use Rattle.eutxo.specs.EutxoTypes.declared.spend.Spend.{Spend}
use Rattle.eutxo.specs.EutxoTypes.declared.tx.Tx.{Tx}
use Rattle.eutxo.specs.declared.validator.StepAnswer.{StepAnswer}
use Rattle.eutxo.specs.declared.validator.StepAnswer.TheVariants as answers
use Rattle.eutxo.specs.EutxoTypes.Digests.{datum_hash}
use Rattle.eutxo.specs.EutxoTypes.Parts.{is_key, Instance, contract_at, outputs_from}
use Rattle.eutxo.specs.Faults.{fault_if, first_of, is_empty}
use Rattle.eutxo.specs.Rules.{has_signed}
use Rattle.eutxo.specs.Asked.{Stepping, Judges}
use Rattle.compiler.specs.Table.Flat.{is_close}
use Rattle.roles.specs.Sums.{sums_of}
use Rattle.roles.specs.Terms.{Terms, terms_of}
use Rattle.roles.specs.declared.published.Published.{Published}

-- whether two are the same: it passes exactly for equal ones
abbrev pub same_output : Output → Output → Bool
same_output = same_by outputs.the_row.coded

abbrev pub same_amounts : Amounts → Amounts → Bool
same_amounts = same_by bundles.the_row.coded

abbrev pub same_datum : Datum → Datum → Bool
same_datum = same_by datums.the_row.coded

-- ---- who may act

abbrev pub role_token : List ℕ → List ℕ → Token
role_token currency role = record { symbol = currency; name = role }

-- whether an input's output is under a key and holds the role's token
abbrev pub shows : List ℕ → List ℕ → Spend × Output → Bool
shows currency role x = is_key x.1.lock && int_lt (pos 0) (amount_of x.1.amount (role_token currency role))

abbrev pub holds_role : List (Spend × Output) → List ℕ → List ℕ → Bool
holds_role spent currency role = list_any (shows currency role) spent

-- the party that an input needs: the depositor, or the owner of the choice. A notify needs nobody
abbrev pub actor : Input → Option Party
actor (Deposit account party token amount) = Some party
actor (Choice id number) = Some id.owner
actor Notify = None

-- an address that signed, or a role whose token a key input's output holds (Marlowe specification version 3, "Participants,
-- roles and public keys")
abbrev pub authorised : List ℕ → List (List ℕ) → List (Spend × Output) → Party → Bool
authorised currency signers spent (Address a) = has_signed signers a
authorised currency signers spent (Role r) = holds_role spent currency r

-- of the parties that the inputs need, in order, the first that isn't authorised
abbrev pub unauthorised : List ℕ → List (List ℕ) → List (Spend × Output) → List Input → Option Party
unauthorised currency signers spent xs = find (λ p. not (authorised currency signers spent p)) (filter_map actor xs)

-- ---- the outputs that a step has to make

-- the output in which a contract goes on from a datum, with the datum's digest
abbrev pub continuation : List ℕ → Datum → Output
continuation script d = record { lock = Contract script (datum_hash d); amount = sums_of d.state }

-- what is owed to a party: under its key, or for whoever holds its role's token
abbrev pub lock_for : List ℕ → Party → Lock
lock_for currency (Address a) = Key a
lock_for currency (Role r) = Payout currency r

-- just this much of one token
abbrev pub only : Token → ℤ → Amounts
only t n = map.insert map.empty t n

abbrev pub owed_output : List ℕ → Party → Payment → Output
owed_output currency party p = record { lock = lock_for currency party; amount = only p.token p.amount }

-- the party to which a payment is due: payments to accounts and of 0 are made by no output
abbrev pub due_above : Payee → ℤ → Option Party
due_above (to.Account a) n = None
due_above (to.Party a) n = if int_lt (pos 0) n then Some a else None

abbrev pub due_to : Payment → Option Party
due_to p = due_above p.to p.amount

abbrev pub and_owed_output : List ℕ → Payment → Option Party → List Output → List Output
and_owed_output currency p None rest = rest
and_owed_output currency p (Some party) rest = owed_output currency party p ∷ rest

-- the outputs that are due, in order
abbrev pub due_outputs : List ℕ → List Payment → List Output
due_outputs currency [] = []
due_outputs currency (p ∷ ps) = and_owed_output currency p (due_to p) (due_outputs currency ps)

-- the lowest place, from i on, where the output that is due there isn't
abbrev pub first_unpaid : ℕ → List Output → List Output → Option ℕ
first_unpaid i [] os = None
first_unpaid i (x ∷ xs) [] = Some i
first_unpaid i (x ∷ xs) (o ∷ os) = if same_output o x then first_unpaid (i + 1) xs os else Some i

-- whether a contract is one of a script, at a datum
abbrev pub is_instance : List ℕ → Datum → Option Instance → Bool
is_instance script d None = false
is_instance script d (Some c) = same_bytes c.script script && same_datum c.datum d

-- whether there is an output, with just this amount
abbrev pub holds_just : Amounts → Option Output → Bool
holds_just m None = false
holds_just m (Some o) = same_amounts o.amount m

-- whether a contract goes on from a datum in the output at a place: it is made there from this datum, which is brought for it, with
-- exactly the sums of its accounts
abbrev pub goes_on_in : Tx → ℕ → List ℕ → Datum → Bool
goes_on_in tx i script d = is_instance script d (contract_at tx i) && holds_just (sums_of d.state) (slice_get tx.outputs i)

-- ---- the step

-- what the transaction function makes of it
abbrev pub walk_of : Terms → Stepping → Walk
walk_of t s = computed s.tx.interval s.datum.state (t.tree s.datum.cont) s.inputs

-- 13: of the parties that act, the first that isn't authorised
abbrev pub not_authorised : List ℕ → Stepping → Option StepFault
not_authorised currency s = option_map NotAuthorised (unauthorised currency s.tx.signers s.spent s.inputs)

-- 14: the contract goes on from a datum, and not in the first output of its block
abbrev pub wrong_continuation : Bool → Datum → Stepping → Option StepFault
wrong_continuation closed d s = fault_if WrongContinuation (not (closed || goes_on_in s.tx s.from s.script d))

-- where the payments begin, of a contract whose block stands from a place
abbrev pub payments_from : Bool → ℕ → ℕ
payments_from closed i = if closed then i else i + 1

-- 15: the first place at which an output that is due for a payment isn't
abbrev pub wrong_payment : List ℕ → Bool → List Payment → Stepping → Option StepFault
wrong_payment currency closed ps s =
    option_map WrongPayment (first_unpaid (payments_from closed s.from) (due_outputs currency ps) (outputs_from (payments_from closed s.from) s.tx.outputs))

-- 13 to 15, once the transaction function succeeds and leads to a datum
abbrev pub outcome_fault : List ℕ → Bool → Datum → List Payment → Stepping → Option StepFault
outcome_fault currency closed d ps s = first_of (not_authorised currency s ∷ wrong_continuation closed d s ∷ wrong_payment currency closed ps s ∷ [])

abbrev pub outcome_answer : List ℕ → Bool → Datum → List Payment → Stepping → StepAnswer
outcome_answer currency closed d ps s = answers.Takes (outcome_fault currency closed d ps s) (not closed) (length (due_outputs currency ps))

-- where the contract goes on: the number to which the turns lead, in the state that is left
abbrev pub next_datum : Terms → Datum → Walk → StateMaps → Datum
next_datum t d w state = record { cont = t.at d.cont w.turns; state = state }

-- 12: the transaction function refuses; else the others
abbrev pub by_answer : Terms → Stepping → Walk → Result Standing SemFault → StepAnswer
by_answer t s w (Ok a) = outcome_answer t.currency (is_close a.contract) (next_datum t s.datum w a.state) w.payments s
by_answer t s w (Err f) = answers.Refused f

-- 12 to 15: the transaction function on what the datum's number stands for. A number outside the table matches nothing
abbrev pub step_of : Terms → Stepping → StepAnswer
step_of t s = if t.has s.datum.cont then by_answer t s (walk_of t s) (answer_of (walk_of t s)) else answers.Refused NoMatch

-- 17: a start is at the root, has neither choices nor bound values, and holds exactly the sums of its accounts
abbrev pub same_cont : Cont → Cont → Bool
same_cont k l = k.0 == l.0

abbrev pub is_fresh : StateMaps → Bool
is_fresh s = is_empty (entries s.choices) && is_empty (entries s.bound_values)

abbrev pub starts_from : Cont → Datum → Amounts → Bool
starts_from root d held = same_cont root d.cont && is_fresh d.state && same_amounts held (sums_of d.state)

-- ---- MARLOWE'S SCRIPT: published contracts judge so

abbrev pub marlowe : Judges Published
marlowe = record { step = λ p. step_of (terms_of p); starts = λ p. starts_from p.root; claims = holds_role }
