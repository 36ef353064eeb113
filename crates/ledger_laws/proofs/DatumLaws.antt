-- Where rule 19 refuses nothing, the data that are brought have the digests that outputs hold.
use Rattle.std.proofs.Common.{◌≡◌, ℕ, zero, suc, ◌+◌, Bool, true, false, List, [], ◌∷◌, ◌++◌, refl, sym, ◌∙◌, ap, arith, Option, Some, None, take, drop, length}
use Rattle.std.specs.Prelude.{if◌then◌else◌, count_by, map}
use Rattle.std.specs.List.{slice_get}
use Rattle.std.specs.Cmp.Lexicographic.{bytes_decides}
use Rattle.std.proofs.lemmas.List.Sums.{sum_by-cons}
use Rattle.contract.specs.Names.Equal.{same_bytes}
use Rattle.roles.specs.Machine.declared.datum.Datum.{Datum}
use Rattle.roles.specs.EutxoTypes.declared.fault.TxFault.TheVariants.{WrongDatum}
use Rattle.roles.specs.EutxoTypes.declared.lock.Lock.{Lock}
use Rattle.roles.specs.EutxoTypes.declared.lock.Lock.TheVariants.{Key, Payout, Contract}
use Rattle.roles.specs.EutxoTypes.declared.output.Output.{Output}
use Rattle.roles.specs.EutxoTypes.declared.redeemer.Redeemer.{Redeemer}
use Rattle.roles.specs.EutxoTypes.declared.redeemer.Redeemer.TheVariants as with
use Rattle.roles.specs.EutxoTypes.declared.spend.Spend.{Spend}
use Rattle.roles.specs.EutxoTypes.declared.tx.Tx.{Tx}
use Rattle.roles.specs.EutxoTypes.Digests.{datum_hash}
use Rattle.roles.specs.EutxoTypes.Parts.{is_contract, ContractLock, contract_in, is_step, step_count, contract_count, made_datums, Instance, lock_of, contract_at}
use Rattle.roles.specs.Eutxo.Rules.{opens, digest_in, digests_in, digests_held, first_unlike, wrong_datum}
use Rattle.ledger_laws.proofs.PlainLaws.{EachFalse, not_false, same_some}
use Rattle.ledger_laws.proofs.PartLaws.{under_so, instance_so}
use Rattle.ledger_laws.proofs.JudgedLemmas.{mapped_none}
use Rattle.ledger_laws.proofs.PairedLemmas.{misfits}

unlike_if : (b : Bool) (i : ℕ) (later : Option ℕ) → (if b then later else Some i) ≡ None → (b ≡ true) × (later ≡ None)
unlike_if true i later h = (refl, h)
unlike_if false i later h = cc

-- where no place differs, the data have just these digests
like : (i : ℕ) (hs : List (List ℕ)) (ds : List Datum) → first_unlike i hs ds ≡ None → map datum_hash ds ≡ hs
like i [] [] h = refl
like i [] (d ∷ ds) h = cc
like i (h ∷ hs) [] e = cc
like i (h ∷ hs) (d ∷ ds) e =
    let p = unlike_if (same_bytes (datum_hash d) h) i (first_unlike (i + 1) hs ds) e in
    let first : datum_hash d ≡ h = (bytes_decides (datum_hash d) h).0 p.0 in
    ap (λ (z : List ℕ). z ∷ map datum_hash ds) first ∙ ap (λ (zs : List (List ℕ)). h ∷ zs) (like (i + 1) hs ds p.1)

pub told : (tx : Tx) (ys : List (Spend × Output)) → wrong_datum tx ys ≡ None → map datum_hash tx.datums ≡ digests_held tx ys
told tx ys h = like 0 (digests_held tx ys) tx.datums (mapped_none WrongDatum _ h)

-- the data behind the first so many
dropped : (hs ks : List (List ℕ)) (ds : List Datum) → map datum_hash ds ≡ hs ++ ks → map datum_hash (drop (length hs) ds) ≡ ks
dropped [] ks ds e = e
dropped (h ∷ hs) ks [] e = cc
dropped (h ∷ hs) ks (d ∷ ds) e = dropped hs ks ds (let f : map datum_hash ds ≡ hs ++ ks = cc in f)

-- ---- how many are for the inputs

one_step : (r : Redeemer) (l : Lock) → opens r l ≡ true → length (digest_in (contract_in l)) ≡ (if is_step r then 1 else 0)
one_step with.None (Key a) h = refl
one_step with.None (Payout c r) h = cc
one_step with.None (Contract s d) h = cc
one_step with.Claim (Key a) h = cc
one_step with.Claim (Payout c r) h = refl
one_step with.Claim (Contract s d) h = cc
one_step (with.Step xs) (Key a) h = cc
one_step (with.Step xs) (Payout c r) h = cc
one_step (with.Step xs) (Contract s d) h = refl

length_both : {A : Type 0} (xs ys : List A) → length (xs ++ ys) ≡ length xs + length ys
length_both [] ys = let e : length ys ≡ 0 + length ys = omega arith in e
length_both (x ∷ xs) ys = let e = length_both xs ys in omega (arith, e)

counted : {A : Type 0} (p : A → Bool) (x : A) (xs : List A) → count_by p (x ∷ xs) ≡ (if p x then 1 else 0) + count_by p xs
counted p x xs = rw sum_by-cons (by (p x))
  where
    by : (b : Bool) → (if b then 1 else 0) + count_by p xs ≡ (if b then 1 else 0) + count_by p xs
    by b = refl

for_inputs : (ys : List (Spend × Output)) → EachFalse misfits ys → length (digests_in (map (λ x. x.1) ys)) ≡ step_count (map (λ x. x.0) ys)
for_inputs [] h = refl
for_inputs (x ∷ xs) h =
    let one = one_step x.0.redeemer x.1.lock (not_false (opens x.0.redeemer x.1.lock) h.0) in
    let rest = for_inputs xs h.1 in
    length_both (digest_in (contract_in x.1.lock)) (digests_in (map (λ x. x.1) xs))
    ∙ ap (λ (n : ℕ). n + length (digests_in (map (λ x. x.1) xs))) one
    ∙ ap (λ (n : ℕ). (if is_step x.0.redeemer then 1 else 0) + n) rest
    ∙ sym (counted (λ y. is_step y.redeemer) x.0 (map (λ x. x.0) xs))

-- ---- which is for an output

digest_at : (os : List Output) (i : ℕ) (o : Output) (l : ContractLock) → slice_get os i ≡ Some o → contract_in o.lock ≡ Some l → slice_get (digests_in os) (contract_count (take i os)) ≡ Some l.digest
digest_at [] i o l h c = cc
digest_at (x ∷ os) zero o l h c =
    let e : contract_in x.lock ≡ Some l = ap (λ (z : Output). contract_in z.lock) (same_some x o h) ∙ c in
    ap (λ (z : Option ContractLock). slice_get (digest_in z ++ digests_in os) 0) e
digest_at (x ∷ os) (suc i) o l h c =
    ap (slice_get (digests_in (x ∷ os))) (counted (λ y. is_contract y.lock) x (take i os)) ∙ by x.lock (digest_at os i o l h c)
  where
    by : (k : Lock) → slice_get (digests_in os) (contract_count (take i os)) ≡ Some l.digest → slice_get (digest_in (contract_in k) ++ digests_in os) ((if is_contract k then 1 else 0) + contract_count (take i os)) ≡ Some l.digest
    by (Key a) go = ap (slice_get (digests_in os)) (let e : 0 + contract_count (take i os) ≡ contract_count (take i os) = omega arith in e) ∙ go
    by (Payout a b) go = ap (slice_get (digests_in os)) (let e : 0 + contract_count (take i os) ≡ contract_count (take i os) = omega arith in e) ∙ go
    by (Contract s d) go = ap (slice_get (d ∷ digests_in os)) (let e : 1 + contract_count (take i os) ≡ suc (contract_count (take i os)) = omega arith in e) ∙ go

from_mapped : (ds : List Datum) (k : ℕ) (h : List ℕ) → slice_get (map datum_hash ds) k ≡ Some h → (d : Datum) × (slice_get ds k ≡ Some d) × (datum_hash d ≡ h)
from_mapped [] k h e = cc
from_mapped (d ∷ ds) zero h e = (d, refl, same_some (datum_hash d) h e)
from_mapped (d ∷ ds) (suc k) h e = from_mapped ds k h e

-- ---- what is made

-- each contract output of a transaction is made at the datum whose digest it holds
pub record Tells (tx : Tx) : Type 0 where
  pub made : (i : ℕ) (o : Output) (l : ContractLock) → slice_get tx.outputs i ≡ Some o → contract_in o.lock ≡ Some l → (c : Instance) × (contract_at tx i ≡ Some c) × (l ≡ lock_of c)

-- so it is where no rule on redeemers and data refuses
pub tells_so : (tx : Tx) (ys : List (Spend × Output)) → tx.inputs ≡ map (λ x. x.0) ys → EachFalse misfits ys → wrong_datum tx ys ≡ None → Tells tx
tells_so tx ys inputs kinds h = record {
  made = λ i o l at c.
      let count : length (digests_in (map (λ x. x.1) ys)) ≡ step_count tx.inputs = for_inputs ys kinds ∙ ap step_count (sym inputs) in
      let made : map datum_hash (made_datums tx) ≡ digests_in tx.outputs =
      ap (λ (n : ℕ). map datum_hash (drop n tx.datums)) (sym count) ∙ dropped (digests_in (map (λ x. x.1) ys)) (digests_in tx.outputs) tx.datums (told tx ys h) in
      let there = ap (λ (hs : List (List ℕ)). slice_get hs (contract_count (take i tx.outputs))) made ∙ digest_at tx.outputs i o l at c in
      let d = from_mapped (made_datums tx) (contract_count (take i tx.outputs)) l.digest there in
      (let z : Instance = record { script = l.script; datum = d.0 } in z, instance_so tx i o l d.0 at c d.1, ap (λ (z : List ℕ). let k : ContractLock = record { script = l.script; digest = z } in k) (sym d.2));
}

-- then a contract that is made stands in an output, under its lock
pub output_so : (tx : Tx) → Tells tx → (i : ℕ) (c : Instance) → contract_at tx i ≡ Some c → (o : Output) × (slice_get tx.outputs i ≡ Some o) × (contract_in o.lock ≡ Some (lock_of c))
output_so tx tells i c h =
    let u = under_so tx i c h in
    let m = tells.made i u.0 u.2 u.1 u.3 in
    (u.0, u.1, u.3 ∙ ap (λ (z : ContractLock). Some z) m.2 ∙ ap (λ (z : Instance). Some (lock_of z)) (same_some m.0 c (sym m.1 ∙ h)))
