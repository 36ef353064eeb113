-- The rules that a transaction and its resolution decide, but for those of a step (`Blocks.antt`), each by itself: the fault with which
-- it refuses, if it does (The Extended UTXO Model, "Extended UTXO model: EUTXO", on what makes a transaction valid).
use Rattle.std.specs.Prelude.{ℕ, ◌+◌, nat_lt, Bool, true, false, not, ◌||◌, if◌then◌else◌, List, [], ◌∷◌, ◌++◌, length, take, map, count_by, Option, Some, None, option_map}
use Rattle.std.specs.List.{list_any}
use Rattle.contract.specs.declared.input.Input.{Input}
use Rattle.eutxo_types.specs.Bundle.Bundles.{Amounts}
use Rattle.eutxo_types.specs.Machine.declared.datum.Datum.{Datum}
use Rattle.contract.specs.Names.Equal.{same_text, same_bytes}
use Rattle.eutxo_types.specs.declared.fault.TxFault.{TxFault}
use Rattle.eutxo_types.specs.declared.fault.TxFault.TheVariants.{NoInputs, TooMany, RepeatedInput, NotSigned, TooManyContracts, WrongRedeemer, RoleMissing, WrongStart, NotPreserved, WrongDatum}
use Rattle.eutxo_types.specs.declared.lock.Lock.{Lock}
use Rattle.eutxo_types.specs.declared.lock.Lock.TheVariants.{Key, Payout, Contract}
use Rattle.eutxo_types.specs.declared.output.Output.{Output}
use Rattle.eutxo_types.specs.declared.output_ref.OutputRef.{OutputRef}
use Rattle.eutxo_types.specs.declared.redeemer.Redeemer.{Redeemer}
use Rattle.eutxo_types.specs.declared.redeemer.Redeemer.TheVariants as with
use Rattle.eutxo_types.specs.declared.spend.Spend.{Spend}
use Rattle.eutxo_types.specs.declared.tx.Tx.{Tx}
use Rattle.eutxo_types.specs.Digests.{datum_hash}
use Rattle.eutxo.specs.Faults.{fault_if, fault_at, first_index, is_empty}
use Rattle.eutxo_types.specs.Parts.{same_ref, inputs_of, is_contract, ContractLock, contract_in, PayoutRole, payout_in, Instance, contract_at}
use Rattle.eutxo.specs.Differing.{first_differing}
use Rattle.eutxo.specs.Asked.{Judges}

-- ---- of the transaction alone

-- 1: there is no input
abbrev pub no_inputs : Tx → Option TxFault
no_inputs tx = fault_if NoInputs (is_empty tx.inputs)

abbrev pub has_too_many : Spend → Bool
has_too_many x = nat_lt 256 (length (inputs_of x.redeemer))

-- 2: there are more than 256 inputs, or a redeemer has more than 256
abbrev pub too_many : Tx → Option TxFault
too_many tx = fault_if TooMany (nat_lt 256 (length tx.inputs) || list_any has_too_many tx.inputs)

-- whether an earlier input names what the input at this place names
abbrev pub is_repeated : List Spend → ℕ → Spend → Bool
is_repeated xs i x = list_any (λ y. same_ref y.reference x.reference) (take i xs)

-- 3: the input at this place names an output that an earlier one names
abbrev pub repeated_input : Tx → Option TxFault
repeated_input tx = option_map RepeatedInput (first_index (is_repeated tx.inputs) 0 tx.inputs)

-- ---- of the transaction and what it spends

-- whether an address is among the signers
abbrev pub has_signed : List (List ℕ) → List ℕ → Bool
has_signed signers a = list_any (λ s. same_text s a) signers

abbrev pub lacks_signer : List (List ℕ) → Lock → Bool
lacks_signer signers (Key a) = not (has_signed signers a)
lacks_signer signers (Payout currency role) = false
lacks_signer signers (Contract script d) = false

-- 8: the output of the input at this place is an address's that isn't among the signers
abbrev pub not_signed : List (List ℕ) → List (Spend × Output) → Option TxFault
not_signed signers spent = fault_at NotSigned (λ x. lacks_signer signers x.1.lock) spent

-- 9: more than 8 inputs have a contract's output
abbrev pub too_many_contracts : List (Spend × Output) → Option TxFault
too_many_contracts spent = fault_if TooManyContracts (nat_lt 8 (count_by (λ x. is_contract x.1.lock) spent))

-- a key is given nothing, a payout a claim, a contract a step
abbrev pub opens : Redeemer → Lock → Bool
opens with.None (Key a) = true
opens with.Claim (Payout currency role) = true
opens (with.Step xs) (Contract script d) = true
opens _ _ = false

-- 10: the redeemer at this place isn't of its output's kind
abbrev pub wrong_redeemer : List (Spend × Output) → Option TxFault
wrong_redeemer spent = fault_at WrongRedeemer (λ x. not (opens x.0.redeemer x.1.lock)) spent

abbrev pub lacks_payout : (List ℕ → List ℕ → Bool) → Option PayoutRole → Bool
lacks_payout claims None = false
lacks_payout claims (Some p) = not (claims p.currency p.role)

abbrev pub lacks_role : (List ℕ → List ℕ → Bool) → Lock → Bool
lacks_role claims lock = lacks_payout claims (payout_in lock)

-- 11: the output of the input at this place is a payout, and what is spent beside it doesn't grant it
abbrev pub role_missing : {V : Type 0} → Judges V → List (Spend × Output) → Option TxFault
role_missing j spent = fault_at RoleMissing (λ x. lacks_role (j.claims spent) x.1.lock) spent

-- ---- of the data

abbrev pub digest_in : Option ContractLock → List (List ℕ)
digest_in None = []
digest_in (Some c) = c.digest ∷ []

-- the digests that contract outputs hold, in order
abbrev pub digests_in : List Output → List (List ℕ)
digests_in [] = []
digests_in (o ∷ os) = digest_in (contract_in o.lock) ++ digests_in os

-- those of the contract outputs that are spent, in the order of the inputs, and then of those that are made
abbrev pub digests_held : Tx → List (Spend × Output) → List (List ℕ)
digests_held tx spent = digests_in (map (λ x. x.1) spent) ++ digests_in tx.outputs

-- the lowest place, from i on, at which a datum hasn't the digest that is held there, or one of the two lists is over
abbrev pub first_unlike : ℕ → List (List ℕ) → List Datum → Option ℕ
first_unlike i [] [] = None
first_unlike i [] (d ∷ ds) = Some i
first_unlike i (h ∷ hs) [] = Some i
first_unlike i (h ∷ hs) (d ∷ ds) = if same_bytes (datum_hash d) h then first_unlike (i + 1) hs ds else Some i

-- 19: the data that are brought aren't one for each contract output that is spent and then for each that is made, each with the
-- digest that its output holds
abbrev pub wrong_datum : Tx → List (Spend × Output) → Option TxFault
wrong_datum tx spent = option_map WrongDatum (first_unlike 0 (digests_held tx spent) tx.datums)

-- ---- of the steps: on the data that are brought

-- a contract that is spent at a reference, at the datum that is brought for it, with the inputs that it is given
pub record Step : Type 0 where
  pub reference : OutputRef
  pub script : List ℕ
  pub datum : Datum
  pub inputs : List Input

abbrev pub or_step : Option ContractLock → Spend → List Datum → (List Datum → List Step) → List Step
or_step None x ds later = later ds
or_step (Some c) x [] later = []
or_step (Some c) x (d ∷ ds) later = record { reference = x.reference; script = c.script; datum = d; inputs = inputs_of x.redeemer } ∷ later ds

-- all contracts that are spent, in the order of the inputs, each with the next of the data
abbrev pub steps_of : List (Spend × Output) → List Datum → List Step
steps_of [] ds = []
steps_of (x ∷ xs) ds = or_step (contract_in x.1.lock) x.0 ds (steps_of xs)

-- ---- of starts

abbrev pub starts_wrong_at : {V : Type 0} → Judges V → Option V → Datum → Amounts → Bool
starts_wrong_at j None d held = false
starts_wrong_at j (Some v) d held = not (j.starts v d held)

abbrev pub starts_wrong : {V : Type 0} → Judges V → (List ℕ → Option V) → Amounts → Option Instance → Bool
starts_wrong j named held None = false
starts_wrong j named held (Some c) = starts_wrong_at j (named c.script) c.datum held

abbrev pub wrong_start_index : {V : Type 0} → Judges V → (List ℕ → Option V) → Tx → Option ℕ
wrong_start_index j named tx = first_index (λ i o. starts_wrong j named o.amount (contract_at tx i)) 0 tx.outputs

-- 17: the output at this place has a contract lock, and its script takes it for no start
abbrev pub wrong_start : {V : Type 0} → Judges V → (List ℕ → Option V) → Tx → Option TxFault
wrong_start j named tx = option_map WrongStart (wrong_start_index j named tx)

-- ---- of the sums

-- 18: the sums of this token over the inputs' outputs and over the outputs differ, and of no lesser token
abbrev pub not_preserved : List (Spend × Output) → List Output → Option TxFault
not_preserved spent made = option_map NotPreserved (first_differing (λ x. x.1.amount) (λ o. o.amount) spent made)
