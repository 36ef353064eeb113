-- The outputs that layouts make.
use Rattle.std.proofs.Common.{◌≡◌, ℕ, ◌+◌, Bool, true, false, List, [], ◌∷◌, map, take, ap, ◌∙◌, arith, Option, Some, None}
use Rattle.std.specs.Prelude.{if◌then◌else◌}
use Rattle.std.specs.List.{slice_get, AllByRecursion}
use Rattle.std.specs.FinMap.{entries}
use Rattle.contract.specs.Names.declared.party.Party.{Party}
use Rattle.contract.specs.Names.declared.party.Party.TheVariants.{Address, Role}
use Rattle.contract.specs.declared.payment.Payment.{Payment}
use Rattle.ledger_spec.specs.Bundle.Bundles.{Amounts}
use Rattle.ledger_spec.specs.Machine.declared.datum.Datum.{Datum}
use Rattle.ledger_spec.specs.EutxoTypes.declared.fault.TxFault.TheVariants.{WrongStart}
use Rattle.ledger_spec.specs.EutxoTypes.declared.lock.Lock.{Lock}
use Rattle.ledger_spec.specs.EutxoTypes.declared.lock.Lock.TheVariants.{Key, Payout, Contract}
use Rattle.ledger_spec.specs.EutxoTypes.declared.output.Output.{Output}
use Rattle.ledger_spec.specs.EutxoTypes.declared.tx.Tx.{Tx}
use Rattle.ledger_spec.specs.EutxoTypes.Digests.{datum_hash}
use Rattle.ledger_spec.specs.EutxoTypes.Parts.{is_contract, ContractLock, contract_in, contract_of, contract_count, made_datums, with_datum, contract_at}
use Rattle.ledger_spec.specs.Eutxo.Faults.{is_empty}
use Rattle.ledger_spec.specs.Eutxo.Rules.{starts_wrong, wrong_start}
use Rattle.ledger_spec.specs.Roles.declared.published.Published.{Published}
use Rattle.ledger_spec.specs.Roles.Steps.{lock_for, continuation, due_to, and_owed_output, due_outputs, marlowe}
use Rattle.ledger_spec.specs.Roles.Owed.{standing_at}
use Rattle.ledger_spec.proofs.FromLedgerLaws.PartLaws.{no_contract_in}
use Rattle.ledger_spec.specs.BuilderSpec.Laying.{paid_to}
use Rattle.builder_laws.proofs.TestLemmas.{each_at, no_place, mapped}

-- ---- locks

-- a test that is so of keys and payouts
pub record IsSo (test : Lock → Bool) (v : Bool) : Type 0 where
  pub key : (a : List ℕ) → test (Key a) ≡ v
  pub payout : (c r : List ℕ) → test (Payout c r) ≡ v

so_for : (test : Lock → Bool) (v : Bool) → IsSo test v → (currency : List ℕ) (p : Party) → test (lock_for currency p) ≡ v
so_for test v h currency (Address a) = h.key a
so_for test v h currency (Role r) = h.payout currency r

-- it is so of the outputs for payments
pub each_due : (test : Lock → Bool) (v : Bool) → IsSo test v → (currency : List ℕ) (ps : List Payment) → AllByRecursion (λ (o : Output). test o.lock ≡ v) (due_outputs currency ps)
each_due test v h currency [] = tt
each_due test v h currency (p ∷ ps) = by (due_to p) (due_outputs currency ps) (each_due test v h currency ps)
  where
    by : (o : Option Party) (rest : List Output) → AllByRecursion (λ (x : Output). test x.lock ≡ v) rest → AllByRecursion (λ (x : Output). test x.lock ≡ v) (and_owed_output currency p o rest)
    by None rest k = k
    by (Some party) rest k = (so_for test v h currency party, k)

-- and of what is given to an address
pub each_given : (test : Lock → Bool) (v : Bool) → IsSo test v → (address : List ℕ) (m : Amounts) → AllByRecursion (λ (o : Output). test o.lock ≡ v) (paid_to address m)
each_given test v h address m = by (is_empty (entries m))
  where
    by : (b : Bool) → AllByRecursion (λ (o : Output). test o.lock ≡ v) (if b then [] else record { lock = Key address; amount = m } ∷ [])
    by true = tt
    by false = (h.key address, tt)

-- of an output that is there unless the contract is over
pub each_unless : (test : Lock → Bool) (v b : Bool) (script : List ℕ) (d : Datum) → test (Contract script (datum_hash d)) ≡ v → AllByRecursion (λ (x : Output). test x.lock ≡ v) (map (continuation script) (if b then [] else d ∷ []))
each_unless test v true script d h = tt
each_unless test v false script d h = (h, tt)

-- an output that is no contract is no wrong start
pub no_wrong_start : (named : List ℕ → Option Published) (tx : Tx) (i : ℕ) (o : Output) → slice_get tx.outputs i ≡ Some o → is_contract o.lock ≡ false → starts_wrong marlowe named o.amount (contract_at tx i) ≡ false
no_wrong_start named tx i o at h =
    ap (λ (x : Option Output). starts_wrong marlowe named o.amount (with_datum (contract_of x) (slice_get (made_datums tx) (contract_count (take i tx.outputs))))) at
    ∙ ap (λ (l : Option ContractLock). starts_wrong marlowe named o.amount (with_datum l (slice_get (made_datums tx) (contract_count (take i tx.outputs))))) (no_contract_in o.lock h)

-- where none of the outputs is a wrong start, the rule on starts refuses nothing
pub none_starts_wrong : (named : List ℕ → Option Published) (tx : Tx) → ((i : ℕ) (o : Output) → slice_get tx.outputs i ≡ Some o → starts_wrong marlowe named o.amount (contract_at tx i) ≡ false) → wrong_start marlowe named tx ≡ None
none_starts_wrong named tx h =
    mapped WrongStart _ (no_place (λ i (o : Output). starts_wrong marlowe named o.amount (contract_at tx i)) 0 tx.outputs
    (λ k o e. ap (λ (n : ℕ). starts_wrong marlowe named o.amount (contract_at tx n)) (let f : 0 + k ≡ k = omega arith in f) ∙ h k o e))

-- so it is where none is a contract
pub no_starts : (named : List ℕ → Option Published) (tx : Tx) → AllByRecursion (λ (o : Output). is_contract o.lock ≡ false) tx.outputs → wrong_start marlowe named tx ≡ None
no_starts named tx h = none_starts_wrong named tx (λ i o at. no_wrong_start named tx i o at (each_at (λ (x : Output). is_contract x.lock ≡ false) tx.outputs h i o at))

-- a contract is made in an output, at the datum that is brought for it
pub made_at : (tx : Tx) (i : ℕ) (script : List ℕ) (d : Datum) → slice_get tx.outputs i ≡ Some (continuation script d) → slice_get (made_datums tx) (contract_count (take i tx.outputs)) ≡ Some d → contract_at tx i ≡ Some (standing_at script d)
made_at tx i script d at h =
    ap (λ (x : Option Output). with_datum (contract_of x) (slice_get (made_datums tx) (contract_count (take i tx.outputs)))) at
    ∙ ap (with_datum (contract_in (Contract script (datum_hash d)))) h

-- in the first, at the first datum that is brought for outputs
pub made_first : (tx : Tx) (script : List ℕ) (d : Datum) (ds : List Datum) → slice_get tx.outputs 0 ≡ Some (continuation script d) → made_datums tx ≡ d ∷ ds → contract_at tx 0 ≡ Some (standing_at script d)
made_first tx script d ds at h = made_at tx 0 script d at (ap (λ (ys : List Datum). slice_get ys (contract_count (take 0 tx.outputs))) h)
