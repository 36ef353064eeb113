-- What stands in a request.
use Rattle.std.specs.Prelude.{ℕ, ℤ, Bool, List, [], Option, Some, None, Result, Ok, Err, codes, if◌then◌else◌}
use Rattle.std.specs.Option.{option_and_then}
use Rattle.contract.specs.Collections.Answers.{◌>>=◌}
use Rattle.contract.specs.declared.tree.Contract.{Contract}
use Rattle.contract.specs.declared.input.Input.{Input}
use Rattle.contract.specs.declared.transaction.Transaction.{Transaction}
use Rattle.contract.specs.Names.declared.party.Party.{Party}
use Rattle.contract.specs.Names.declared.token.Token.{Token}
use Rattle.contract.specs.States.States.{StateMaps}
use Rattle.serde_json.specs.Data.{Data}
use Rattle.serde_json.specs.Find.{get, as_str}
use Rattle.marlowe_run.specs.JsonReadNames.Forms.{contract_form}
use Rattle.marlowe_run.specs.JsonReadNames.Parts.{member_at, reading_at, time}
use Rattle.marlowe_run.specs.JsonReadNames.ReadsNames.{party, token}
use Rattle.marlowe_run.specs.JsonReadNames.declared.fault.JsonFault.{JsonFault}
use Rattle.marlowe_run.specs.JsonReadNames.declared.forms.ContractForm.{ContractForm}
use Rattle.marlowe_run.specs.JsonReadNames.declared.forms.ContractForm.TheVariants as forms
use Rattle.marlowe_run.specs.JsonReadContracts.ReadsContract.{contract}
use Rattle.marlowe_run.specs.JsonReadInputs.ReadsInput.{input, transaction}
use Rattle.json_read_transactions.specs.ReadsTransactions.{taken, value_readings}
use Rattle.marlowe_run.specs.MarloweRefusals.Faults.{read_as, contract_fault, state_fault, transaction_fault}
use Rattle.marlowe_run.specs.MarloweRefusals.TraceFaults.{told_as, texts_fault}
use Rattle.marlowe_run.specs.Start.{at_first, state_reading}
use Rattle.definitions.specs.Named.{named}
use Rattle.definitions.specs.declared.definition.Definition.{Definition}
use Rattle.request_parts.specs.Refusals.{run_refused, trace_refused, part_refused}
use Rattle.request_parts.specs.declared.refusal.Part.{Part}
use Rattle.request_parts.specs.declared.refusal.Part.TheVariants as parts
use Rattle.request_parts.specs.declared.refusal.Refusal.{Refusal}
use Rattle.request_parts.specs.declared.refusal.Refusal.TheVariants as refusals

-- ---- a contract

abbrev pub contract_refused : JsonFault → Refusal
contract_refused fault = run_refused (contract_fault fault)

abbrev name_by : ContractForm → Data → Option (List ℕ)
name_by forms.Nothing d = option_and_then as_str (get (codes "name") d)
name_by other d = None

-- the name in a value that has no form of a contract
abbrev pub name_of : Data → Option (List ℕ)
name_of d = name_by (contract_form d) d

abbrev or_undefined : Option Contract → Result Contract Refusal
or_undefined None = Err refusals.Undefined
or_undefined (Some c) = Ok c

abbrev given_by : List Definition → Data → Option (List ℕ) → Result Contract Refusal
given_by defs d (Some name) = or_undefined (named name defs)
given_by defs d None = read_as contract_refused (contract d)

-- the contract of that name, or the one that stands there
abbrev pub contract_given : List Definition → Data → Result Contract Refusal
contract_given defs d = given_by defs d (name_of d)

-- at the key `contract`
abbrev pub contract_at : List Definition → Data → Result Contract Refusal
contract_at defs body = read_as contract_refused (member_at (codes "contract") body) >>= contract_given defs

-- ---- a state

abbrev state_or : Bool → Option Data → Result StateMaps Refusal
state_or texts None = Ok at_first
state_or texts (Some d) = read_as (λ f. run_refused (state_fault f)) (state_reading texts d)

-- at the key `state`: without one it has no entries, and its time is 0. Its numbers may be texts
abbrev pub state_at : Bool → Data → Result StateMaps Refusal
state_at texts body = state_or texts (get (codes "state") body)

-- ---- transactions

abbrev pub transaction_at : Data → Result Transaction Refusal
transaction_at body = read_as (λ f. run_refused (transaction_fault f)) (reading_at transaction body (codes "transaction"))

abbrev transactions_or : Option Data → Result (List Transaction) Refusal
transactions_or None = Ok []
transactions_or (Some d) = told_as (λ f. trace_refused (texts_fault f)) (taken 0 (value_readings d))

-- at a key: a list, one, or none where the key isn't there
abbrev pub transactions_at : List ℕ → Data → Result (List Transaction) Refusal
transactions_at key body = transactions_or (get key body)

-- ---- times

abbrev time_or : Part → Option Data → Result (Option ℤ) Refusal
time_or p None = Ok None
time_or p (Some d) = read_as (part_refused p) (time d) >>= λ t. Ok (Some t)

-- at a key, if it is there
abbrev pub time_at : Part → List ℕ → Data → Result (Option ℤ) Refusal
time_at p key body = time_or p (get key body)

-- ---- other values

abbrev pub input_at : Data → Result Input Refusal
input_at body = read_as (part_refused parts.Input) (reading_at input body (codes "input"))

abbrev pub party_at : Data → Result Party Refusal
party_at body = read_as (part_refused parts.Party) (reading_at party body (codes "party"))

abbrev party_or : Option Data → Result (Option Party) Refusal
party_or None = Ok None
party_or (Some d) = read_as (part_refused parts.Party) (party d) >>= λ p. Ok (Some p)

-- .. if one is there
abbrev pub party_if : Data → Result (Option Party) Refusal
party_if body = party_or (get (codes "party") body)

abbrev pub token_at : Data → Result Token Refusal
token_at body = read_as (part_refused parts.Token) (reading_at token body (codes "token"))
