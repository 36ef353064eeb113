-- What is read of the parts of a transaction, each in one place.
use Rattle.std.specs.Prelude.{ℕ, Bool, true, false, ◌==◌, ◌&&◌, if◌then◌else◌, List, [], ◌∷◌, take, drop, count_by, slice_get, Option, Some, None}
use Rattle.std.specs.List.{list_any}
pub use Rattle.contract.specs.Names.Equal.{same_bytes}
use Rattle.contract.specs.declared.input.Input.{Input}
use Rattle.machine.specs.declared.datum.Datum.{Datum}
use Rattle.eutxo_types.specs.declared.lock.Lock.{Lock}
use Rattle.eutxo_types.specs.declared.lock.Lock.TheVariants.{Key, Payout, Contract}
use Rattle.eutxo_types.specs.declared.output.Output.{Output}
use Rattle.eutxo_types.specs.declared.output_ref.OutputRef.{OutputRef}
use Rattle.eutxo_types.specs.declared.output_ref.OutputRef.TheVariants.{Genesis, Made}
use Rattle.eutxo_types.specs.declared.redeemer.Redeemer.{Redeemer}
use Rattle.eutxo_types.specs.declared.redeemer.Redeemer.TheVariants as with
use Rattle.eutxo_types.specs.declared.spend.Spend.{Spend}
use Rattle.eutxo_types.specs.declared.tx.Tx.{Tx}
use Rattle.eutxo_types.specs.Digests.{datum_hash}

-- ---- references

-- whether two references name one output
abbrev pub same_ref : OutputRef → OutputRef → Bool
same_ref (Genesis i) (Genesis j) = i == j
same_ref (Made n i) (Made m j) = same_bytes n m && (i == j)
same_ref (Genesis i) (Made m j) = false
same_ref (Made n i) (Genesis j) = false

-- ---- locks

-- whether a lock is an address's
abbrev pub is_key : Lock → Bool
is_key (Key a) = true
is_key (Payout currency role) = false
is_key (Contract script d) = false

-- whether a lock is a payout's
abbrev pub is_payout : Lock → Bool
is_payout (Key a) = false
is_payout (Payout currency role) = true
is_payout (Contract script d) = false

-- whether a lock is a contract's
abbrev pub is_contract : Lock → Bool
is_contract (Key a) = false
is_contract (Payout currency role) = false
is_contract (Contract script d) = true

-- the script of a contract lock
abbrev pub script_in : Lock → Option (List ℕ)
script_in (Key a) = None
script_in (Payout currency role) = None
script_in (Contract script d) = Some script

-- what a contract lock holds: its script, and the digest of the datum from which the contract goes on
pub record ContractLock : Type 0 where
  pub script : List ℕ
  pub digest : List ℕ

abbrev pub contract_in : Lock → Option ContractLock
contract_in (Key a) = None
contract_in (Payout currency role) = None
contract_in (Contract script d) = Some (record { script = script; digest = d })

-- what a payout lock waits for: the role token of a currency
pub record PayoutRole : Type 0 where
  pub currency : List ℕ
  pub role : List ℕ

abbrev pub payout_in : Lock → Option PayoutRole
payout_in (Key a) = None
payout_in (Payout currency role) = Some (record { currency = currency; role = role })
payout_in (Contract script d) = None

-- ---- redeemers

-- whether a redeemer steps a contract
abbrev pub is_step : Redeemer → Bool
is_step with.None = false
is_step with.Claim = false
is_step (with.Step xs) = true

-- the inputs that a redeemer gives to a contract
abbrev pub inputs_of : Redeemer → List Input
inputs_of with.None = []
inputs_of with.Claim = []
inputs_of (with.Step xs) = xs

-- ---- transactions

-- whether one of its inputs steps a contract
abbrev pub steps : Tx → Bool
steps tx = list_any (λ x. is_step x.redeemer) tx.inputs

-- the inputs given to the output that a reference names: those of the redeemer of the first input that names it
abbrev pub given_to : OutputRef → List Spend → Option (List Input)
given_to r [] = None
given_to r (x ∷ xs) = if same_ref x.reference r then Some (inputs_of x.redeemer) else given_to r xs

-- a contract as a transaction makes it: under its script, at a datum
pub record Instance : Type 0 where
  pub script : List ℕ
  pub datum : Datum

-- the lock under which it stands
abbrev pub lock_of : Instance → ContractLock
lock_of c = record { script = c.script; digest = datum_hash c.datum }

abbrev pub contract_of : Option Output → Option ContractLock
contract_of None = None
contract_of (Some o) = contract_in o.lock

-- how many of these inputs step a contract
abbrev pub step_count : List Spend → ℕ
step_count xs = count_by (λ x. is_step x.redeemer) xs

-- how many of these outputs are a contract's
abbrev pub contract_count : List Output → ℕ
contract_count os = count_by (λ o. is_contract o.lock) os

-- the data that a transaction brings are for the inputs that step, in order, and then for the contract outputs: those for the outputs
abbrev pub made_datums : Tx → List Datum
made_datums tx = drop (step_count tx.inputs) tx.datums

abbrev pub with_datum : Option ContractLock → Option Datum → Option Instance
with_datum None d = None
with_datum (Some l) None = None
with_datum (Some l) (Some d) = Some (record { script = l.script; datum = d })

-- the contract that a transaction makes in the output at a place, with the datum that it brings for it: the one reader of a
-- made datum
abbrev pub contract_at : Tx → ℕ → Option Instance
contract_at tx i = with_datum (contract_of (slice_get tx.outputs i)) (slice_get (made_datums tx) (contract_count (take i tx.outputs)))

-- the outputs from a place on
abbrev pub outputs_from : ℕ → List Output → List Output
outputs_from i os = drop i os
