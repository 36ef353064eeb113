-- Blocks of outputs that stand as they are laid out: the output in which a contract goes on, and those that are due.
use Rattle.std.proofs.Common.{◌≡◌, ℕ, zero, suc, ◌+◌, Bool, true, false, not, ◌&&◌, ◌||◌, List, [], ◌∷◌, ◌++◌, map, take, drop, length, refl, sym, ap, ◌∙◌, arith, Some, None}
use Rattle.std.proofs.Math.Seq.{take-append_seam, drop-append_seam, drop-append-add}
use Rattle.std.proofs.lemmas.Bool.{eq-eqb}
use Rattle.std.specs.Prelude.{if◌then◌else◌}
use Rattle.std.specs.List.{slice_get, AllByRecursion}
use Rattle.ledger_spec.specs.Machine.declared.datum.Datum.{Datum}
use Rattle.ledger_spec.specs.EutxoTypes.declared.fault.TxFault.TheVariants.{StrayContract}
use Rattle.ledger_spec.specs.EutxoTypes.declared.output.Output.{Output}
use Rattle.ledger_spec.specs.EutxoTypes.declared.output_ref.OutputRef.{OutputRef}
use Rattle.ledger_spec.specs.EutxoTypes.declared.tx.Tx.{Tx}
use Rattle.ledger_spec.specs.EutxoTypes.Parts.{is_contract, contract_count, made_datums, outputs_from}
use Rattle.ledger_spec.specs.Eutxo.declared.validator.StepAnswer.{StepAnswer}
use Rattle.ledger_spec.specs.Eutxo.declared.validator.StepAnswer.TheVariants.{Takes}
use Rattle.ledger_spec.specs.Eutxo.Faults.{or_else}
use Rattle.ledger_spec.specs.Eutxo.Blocks.{Block, size, is_place, is_continuing, faults_in, lowest, stray_contract, block_fault}
use Rattle.ledger_spec.specs.Roles.Steps.{continuation, first_unpaid, goes_on_in, payments_from}
use Rattle.ledger_spec.proofs.FromRoles.OwedLaws.{goes_on_there, all_paid}
use Rattle.builder_laws.proofs.TestLemmas.{each_at, no_place, mapped}
use Rattle.builder_laws.proofs.OutputLemmas.{made_at}

-- none of these outputs is a contract's
abbrev pub AreNoContracts : List Output → Type 0
AreNoContracts os = AllByRecursion (λ (o : Output). is_contract o.lock ≡ false) os

-- where a contract goes on unless it is over, and what is due behind it
abbrev pub next_if : Bool → Datum → List Datum
next_if closed d = if closed then [] else d ∷ []

abbrev pub laid_block : Bool → List ℕ → Datum → List Output → List Output
laid_block closed script d due = map (continuation script) (next_if closed d) ++ due

-- its answer, where no rule refuses
abbrev pub taken : Bool → ℕ → StepAnswer
taken closed n = Takes None (not closed) n

-- ---- of blocks from a place on, none refuses, and each contract in the outputs from there on is a continuing one

pub record AreClear (bs : List Block) (i : ℕ) (os : List Output) : Type 0 where
  pub none : faults_in bs ≡ []
  pub stand : (k : ℕ) (o : Output) → slice_get os k ≡ Some o → is_contract o.lock ≡ true → is_continuing bs (i + k) ≡ true

pub no_blocks : (i : ℕ) (os : List Output) → AreNoContracts os → AreClear [] i os
no_blocks i os h = record {
  none = refl;
  stand = λ k o at is. sym (each_at (λ (x : Output). is_contract x.lock ≡ false) os h k o at) ∙ is;
}

-- a contract behind outputs that are none
behind : (xs rest : List Output) → AreNoContracts xs → (k : ℕ) (o : Output) → slice_get (xs ++ rest) k ≡ Some o → is_contract o.lock ≡ true → (n : ℕ) × (k ≡ length xs + n) × (slice_get rest n ≡ Some o)
behind [] rest h k o at is = (k, (let e : k ≡ 0 + k = omega arith in e), at)
behind (x ∷ xs) rest h zero o at is =
    let same : x ≡ o = cc in
    let no : is_contract o.lock ≡ false = ap (λ (z : Output). is_contract z.lock) (sym same) ∙ h.0 in
    cc
behind (x ∷ xs) rest h (suc k) o at is =
    let p = behind xs rest h.1 k o at is in
    let e = p.1 in
    let further : suc k ≡ length (x ∷ xs) + p.0 = omega (arith, e) in
    (p.0, further, p.2)

or_later : (a b : Bool) → b ≡ true → a || b ≡ true
or_later true b h = refl
or_later false b h = h

pub one_block : (closed : Bool) (i : ℕ) (r : OutputRef) (script : List ℕ) (d : Datum) (due rest : List Output) (later : List Block) → AreNoContracts due → AreClear later (i + size (taken closed (length due))) rest →
    AreClear (record { from = i; reference = r; answer = taken closed (length due) } ∷ later) i (laid_block closed script d due ++ rest)
one_block true i r script d due rest later none h = record { none = h.none; stand = stands }
  where
    stands : (k : ℕ) (o : Output) → slice_get (due ++ rest) k ≡ Some o → is_contract o.lock ≡ true → is_continuing later (i + k) ≡ true
    stands k o at is =
        let p = behind due rest none k o at is in
        let e = p.1 in
        let further : i + k ≡ i + (0 + length due) + p.0 = omega (arith, e) in
        ap (is_continuing later) further ∙ h.stand p.0 o p.2 is
one_block false i r script d due rest later none h = record { none = h.none; stand = stands }
  where
    stands : (k : ℕ) (o : Output) → slice_get (continuation script d ∷ (due ++ rest)) k ≡ Some o → is_contract o.lock ≡ true → is_place (i + k) (Some i) || is_continuing later (i + k) ≡ true
    stands zero o at is =
        let e : i + 0 ≡ i = omega arith in
        ap (λ n. is_place n (Some i) || is_continuing later (i + 0)) e ∙ ap (λ b. b || is_continuing later (i + 0)) (eq-eqb i i refl)
    stands (suc k) o at is =
        let p = behind due rest none k o at is in
        let e = p.1 in
        let further : i + suc k ≡ i + (1 + length due) + p.0 = omega (arith, e) in
        or_later (is_place (i + suc k) (Some i)) (is_continuing later (i + suc k)) (ap (is_continuing later) further ∙ h.stand p.0 o p.2 is)

none_stray : (is on : Bool) → (is ≡ true → on ≡ true) → is && not on ≡ false
none_stray true on h = ap not (h refl)
none_stray false on h = refl

-- so no rule of steps refuses
pub blocks_pass : (bs : List Block) (os : List Output) → AreClear bs 0 os → block_fault bs os ≡ None
blocks_pass bs os h =
    ap (λ fs. or_else (lowest fs) (stray_contract bs os)) h.none
    ∙ mapped StrayContract _ (no_place (λ i (o : Output). is_contract o.lock && not (is_continuing bs i)) 0 os
    (λ k o at. none_stray (is_contract o.lock) (is_continuing bs (0 + k)) (h.stand k o at)))

-- ---- a block behind other outputs

get_seam : {A : Type 0} (xs : List A) (y : A) (ys : List A) → slice_get (xs ++ y ∷ ys) (length xs) ≡ Some y
get_seam [] y ys = refl
get_seam (x ∷ xs) y ys = get_seam xs y ys

-- the contract goes on in its first output, unless it is over
pub goes_on_at_front : (closed : Bool) (tx : Tx) (script : List ℕ) (d : Datum) (front due rest : List Output) (earlier later : List Datum) → tx.outputs ≡ front ++ (laid_block closed script d due ++ rest) → made_datums tx ≡ earlier ++ (next_if closed d ++ later) →
    contract_count front ≡ length earlier → closed || goes_on_in tx (length front) script d ≡ true
goes_on_at_front true tx script d front due rest earlier later h k n = refl
goes_on_at_front false tx script d front due rest earlier later h k n =
    let c = continuation script d in
    let at : slice_get tx.outputs (length front) ≡ Some c = ap (λ (os : List Output). slice_get os (length front)) h ∙ get_seam front c (due ++ rest) in
    let count : contract_count (take (length front) tx.outputs) ≡ length earlier =
    ap (λ (os : List Output). contract_count (take (length front) os)) h ∙ ap contract_count (take-append_seam front (c ∷ (due ++ rest))) ∙ n in
    let datum : slice_get (made_datums tx) (contract_count (take (length front) tx.outputs)) ≡ Some d =
    ap (slice_get (made_datums tx)) count ∙ ap (λ (ds : List Datum). slice_get ds (length earlier)) k ∙ get_seam earlier d later in
    goes_on_there tx (length front) script d (made_at tx (length front) script d at datum, c, at, refl)

-- and what is due follows
pub paid_behind_front : (closed : Bool) (n : ℕ) (script : List ℕ) (d : Datum) (front due rest os : List Output) → os ≡ front ++ (laid_block closed script d due ++ rest) → first_unpaid n due (outputs_from (payments_from closed (length front)) os) ≡ None
paid_behind_front true n script d front due rest os h =
    ap (λ (zs : List Output). first_unpaid n due (drop (length front) zs)) h ∙ ap (first_unpaid n due) (drop-append_seam front (due ++ rest)) ∙ all_paid n due rest
paid_behind_front false n script d front due rest os h =
    ap (λ (zs : List Output). first_unpaid n due (drop (length front + 1) zs)) h ∙ ap (first_unpaid n due) (drop-append-add front (continuation script d ∷ (due ++ rest)) 1) ∙ all_paid n due rest
