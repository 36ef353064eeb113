-- Outputs that a step owes are recognised exactly where they stand as they are made.
use Rattle.std.proofs.Common.{◌≡◌, ℕ, ◌+◌, Bool, true, false, ◌&&◌, List, [], ◌∷◌, ◌++◌, length, take, refl, ap, ◌∙◌, Option, Some, None}
use Rattle.std.proofs.Math.Seq.{take-append_seam}
use Rattle.std.specs.Prelude.{if◌then◌else◌}
use Rattle.std.specs.List.{slice_get}
use Rattle.std.specs.Cmp.Lexicographic.{bytes_decides}
use Rattle.contract.proofs.FromCollections.SameLaws.{same_by_decides}
use Rattle.contract.specs.Names.Equal.{same_bytes}
use Rattle.eutxo.specs.Bundle.Bundles.{Amounts}
use Rattle.eutxo.specs.Bundle.contracts.bundle.Bundle as bundles
use Rattle.eutxo.specs.Machine.declared.datum.Datum.{Datum}
use Rattle.eutxo.specs.Machine.contracts.datum.Datum as datums
use Rattle.eutxo.specs.EutxoTypes.contracts.output.Output as outputs
use Rattle.eutxo.specs.EutxoTypes.declared.lock.Lock.{Lock}
use Rattle.eutxo.specs.EutxoTypes.declared.lock.Lock.TheVariants.{Key, Payout, Contract}
use Rattle.eutxo.specs.EutxoTypes.declared.output.Output.{Output}
use Rattle.eutxo.specs.EutxoTypes.declared.tx.Tx.{Tx}
use Rattle.eutxo.specs.EutxoTypes.Digests.{datum_hash}
use Rattle.eutxo.specs.EutxoTypes.Parts.{ContractLock, contract_in, Instance, lock_of, contract_at}
use Rattle.roles.specs.Sums.{sums_of}
use Rattle.roles.specs.Steps.{same_output, same_amounts, same_datum, is_instance, holds_just, goes_on_in, first_unpaid}
use Rattle.roles.specs.Owed.{standing_at, IsMadeWithSums, GoesOnWhereMade, MadeAreContinuations, PaidInDueOutputs}

pub same_amounts_itself : (m : Amounts) → same_amounts m m ≡ true
same_amounts_itself m = (same_by_decides bundles.the_row.coded m m).1 refl

both : (a b : Bool) → a && b ≡ true → (a ≡ true) × (b ≡ true)
both true b h = (refl, h)
both false b h = cc

together : (a b : Bool) → a ≡ true → b ≡ true → a && b ≡ true
together true b h k = k
together false b h k = cc

-- ---- the output in which a contract goes on

instance_so : (script : List ℕ) (d : Datum) (c : Option Instance) → is_instance script d c ≡ true → c ≡ Some (standing_at script d)
instance_so script d None h = cc
instance_so script d (Some c) h =
    let made = both (same_bytes c.script script) (same_datum c.datum d) h in
    ap (λ (z : List ℕ). Some (standing_at z c.datum)) ((bytes_decides c.script script).0 made.0)
    ∙ ap (λ (z : Datum). Some (standing_at script z)) ((same_by_decides datums.the_row.coded c.datum d).0 made.1)

instance_itself : (script : List ℕ) (d : Datum) → is_instance script d (Some (standing_at script d)) ≡ true
instance_itself script d = together (same_bytes script script) (same_datum d d) ((bytes_decides script script).1 refl) ((same_by_decides datums.the_row.coded d d).1 refl)

holds_so : (m : Amounts) (o : Option Output) → holds_just m o ≡ true → (x : Output) × (o ≡ Some x) × (x.amount ≡ m)
holds_so m None h = cc
holds_so m (Some o) h = (o, refl, (same_by_decides bundles.the_row.coded o.amount m).0 h)

made_so : (tx : Tx) (i : ℕ) (script : List ℕ) (d : Datum) → goes_on_in tx i script d ≡ true → IsMadeWithSums tx i (standing_at script d)
made_so tx i script d h =
    let all = both (is_instance script d (contract_at tx i)) (holds_just (sums_of d.state) (slice_get tx.outputs i)) h in
    let out = holds_so (sums_of d.state) (slice_get tx.outputs i) all.1 in
    (instance_so script d (contract_at tx i) all.0, out.0, out.1, out.2)

-- a contract goes on in its continuation for which its datum is brought
pub goes_on_there : (tx : Tx) (i : ℕ) (script : List ℕ) (d : Datum) → IsMadeWithSums tx i (standing_at script d) → goes_on_in tx i script d ≡ true
goes_on_there tx i script d h =
    together (is_instance script d (contract_at tx i)) (holds_just (sums_of d.state) (slice_get tx.outputs i))
    (ap (is_instance script d) h.0 ∙ instance_itself script d)
    (ap (holds_just (sums_of d.state)) h.2 ∙ (same_by_decides bundles.the_row.coded (h.1).amount (sums_of d.state)).1 h.3)

pub goes_on_where_made : GoesOnWhereMade
goes_on_where_made tx i script d = (made_so tx i script d, goes_on_there tx i script d)

under : (l : Lock) (c : Instance) → contract_in l ≡ Some (lock_of c) → l ≡ Contract c.script (datum_hash c.datum)
under (Key a) c h = cc
under (Payout r s) c h = cc
under (Contract s e) c h =
    let same : (let l : ContractLock = record { script = s; digest = e } in l) ≡ lock_of c = cc in
    ap (λ (z : ContractLock). Contract z.script z.digest) same

abbrev output_of : Lock → Amounts → Output
output_of lock m = record { lock = lock; amount = m }

pub made_are_continuations : MadeAreContinuations
made_are_continuations o c h m = ap (λ (l : Lock). output_of l o.amount) (under o.lock c h) ∙ ap (output_of (Contract c.script (datum_hash c.datum))) m

-- ---- the outputs that are due

paid_so : (i : ℕ) (xs os : List Output) → first_unpaid i xs os ≡ None → take (length xs) os ≡ xs
paid_so i [] os h = refl
paid_so i (x ∷ xs) [] h = cc
paid_so i (x ∷ xs) (o ∷ os) h = by (same_output o x) refl (paid_so (i + 1) xs os) h
  where
    by : (b : Bool) → same_output o x ≡ b → (first_unpaid (i + 1) xs os ≡ None → take (length xs) os ≡ xs) → (if b then first_unpaid (i + 1) xs os else Some i) ≡ None → o ∷ take (length xs) os ≡ x ∷ xs
    by true e rest k = ap (λ z. z ∷ take (length xs) os) ((same_by_decides outputs.the_row.coded o x).0 e) ∙ ap (λ zs. x ∷ zs) (rest k)
    by false e rest k = cc

paid_there : (i : ℕ) (xs os : List Output) → take (length xs) os ≡ xs → first_unpaid i xs os ≡ None
paid_there i [] os h = refl
paid_there i (x ∷ xs) [] h = cc
paid_there i (x ∷ xs) (o ∷ os) h =
    let first : o ≡ x = cc in
    let rest : take (length xs) os ≡ xs = cc in
    ap (λ b. if b then first_unpaid (i + 1) xs os else Some i) ((same_by_decides outputs.the_row.coded o x).1 first) ∙ paid_there (i + 1) xs os rest

pub all_paid : (i : ℕ) (xs os : List Output) → first_unpaid i xs (xs ++ os) ≡ None
all_paid i xs os = paid_there i xs (xs ++ os) (take-append_seam xs os)

pub paid_in_due_outputs : PaidInDueOutputs
paid_in_due_outputs i xs os = (paid_so i xs os, paid_there i xs os)
