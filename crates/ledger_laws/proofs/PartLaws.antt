-- Locks of contracts, and the outputs that have them.
use Rattle.std.proofs.Common.{◌≡◌, ℕ, zero, suc, true, false, List, [], ◌∷◌, refl, ◌∙◌, ap, Option, Some, None, take, drop}
use Rattle.std.specs.List.{slice_get}
use Rattle.roles.specs.Machine.declared.datum.Datum.{Datum}
use Rattle.roles.specs.EutxoTypes.declared.lock.Lock.{Lock}
use Rattle.roles.specs.EutxoTypes.declared.lock.Lock.TheVariants.{Key, Payout, Contract}
use Rattle.roles.specs.EutxoTypes.declared.output.Output.{Output}
use Rattle.roles.specs.EutxoTypes.declared.tx.Tx.{Tx}
use Rattle.roles.specs.EutxoTypes.Parts.{is_contract, script_in, ContractLock, contract_in, contract_of, step_count, contract_count, made_datums, Instance, with_datum, contract_at}
use Rattle.ledger_laws.proofs.PlainLaws.{same_some}

pub contract_of_lock : (l : Lock) → is_contract l ≡ true → (c : ContractLock) × (contract_in l ≡ Some c)
contract_of_lock (Key a) h = cc
contract_of_lock (Payout k a) h = cc
contract_of_lock (Contract s d) h = (record { script = s; digest = d }, refl)

pub no_contract_in : (l : Lock) → is_contract l ≡ false → contract_in l ≡ None
no_contract_in (Key a) h = refl
no_contract_in (Payout k a) h = refl
no_contract_in (Contract s d) h = cc

pub lock_so : (l : Lock) (c : ContractLock) → contract_in l ≡ Some c → l ≡ Contract c.script c.digest
lock_so (Key a) c h = cc
lock_so (Payout k a) c h = cc
lock_so (Contract s d) c h = ap (λ (z : ContractLock). Contract z.script z.digest) (same_some _ c h)

pub is_contract_so : (l : Lock) (c : ContractLock) → contract_in l ≡ Some c → is_contract l ≡ true
is_contract_so l c h = ap is_contract (lock_so l c h)

pub script_so : (l : Lock) (c : ContractLock) → contract_in l ≡ Some c → script_in l ≡ Some c.script
script_so l c h = ap script_in (lock_so l c h)

with_so : (l : Option ContractLock) (d : Option Datum) (c : Instance) → with_datum l d ≡ Some c → (k : ContractLock) × (l ≡ Some k) × (k.script ≡ c.script) × (d ≡ Some c.datum)
with_so None d c h = cc
with_so (Some l) None c h = cc
with_so (Some l) (Some d) c h =
    let same : (let z : Instance = record { script = l.script; datum = d } in z) ≡ c = same_some _ c h in
    (l, refl, ap (λ (z : Instance). z.script) same, ap (λ (z : Instance). Some z.datum) same)

in_output : (o : Option Output) (l : ContractLock) → contract_of o ≡ Some l → (x : Output) × (o ≡ Some x) × (contract_in x.lock ≡ Some l)
in_output None l h = cc
in_output (Some o) l h = (o, refl, h)

-- the datum that is brought for the output at a place
abbrev pub datum_at : Tx → ℕ → Option Datum
datum_at tx i = slice_get (made_datums tx) (contract_count (take i tx.outputs))

-- a contract that is made stands in an output, under a lock of its script
pub under_so : (tx : Tx) (i : ℕ) (c : Instance) → contract_at tx i ≡ Some c → (o : Output) × (slice_get tx.outputs i ≡ Some o) × (l : ContractLock) × (contract_in o.lock ≡ Some l) × (l.script ≡ c.script)
under_so tx i c h =
    let w = with_so (contract_of (slice_get tx.outputs i)) (datum_at tx i) c h in
    let o = in_output (slice_get tx.outputs i) w.0 w.1 in
    (o.0, o.1, w.0, o.2, w.2)

from_dropped : (n k : ℕ) (ds : List Datum) (d : Datum) → slice_get (drop n ds) k ≡ Some d → (j : ℕ) × (slice_get ds j ≡ Some d)
from_dropped zero k ds d h = (k, h)
from_dropped (suc n) k [] d h = cc
from_dropped (suc n) k (x ∷ ds) d h = let p = from_dropped n k ds d h in (suc p.0, p.1)

-- and its datum is brought
pub brought_so : (tx : Tx) (i : ℕ) (c : Instance) → contract_at tx i ≡ Some c → (k : ℕ) × (slice_get tx.datums k ≡ Some c.datum)
brought_so tx i c h =
    let w = with_so (contract_of (slice_get tx.outputs i)) (datum_at tx i) c h in
    from_dropped (step_count tx.inputs) (contract_count (take i tx.outputs)) tx.datums c.datum w.3

-- an output under a contract's lock, for which a datum is brought, makes it
pub instance_so : (tx : Tx) (i : ℕ) (o : Output) (l : ContractLock) (d : Datum) → slice_get tx.outputs i ≡ Some o → contract_in o.lock ≡ Some l → datum_at tx i ≡ Some d →
    contract_at tx i ≡ Some (let c : Instance = record { script = l.script; datum = d } in c)
instance_so tx i o l d at h e =
    ap (λ (z : Option Datum). with_datum (contract_of (slice_get tx.outputs i)) z) e
    ∙ ap (λ (z : Option Output). with_datum (contract_of z) (Some d)) at
    ∙ ap (λ (z : Option ContractLock). with_datum z (Some d)) h
