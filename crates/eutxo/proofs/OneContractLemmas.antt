-- A transaction that spends one contract is judged as if there were no blocks.
use Rattle.std.proofs.Common.{◌≡◌, ℕ, zero, suc, ◌+◌, ◌≤◌, Bool, true, false, not, ◌&&◌, ◌||◌, cond, List, [], ◌∷◌, refl, sym, ◌∙◌, ap, arith, Option, Some, None, length}
use Rattle.std.specs.Prelude.{◌==◌, nat_lt, if◌then◌else◌, count_by}
use Rattle.std.specs.List.{position, position_from}
use Rattle.std.specs.Option.{option_map}
use Rattle.std.proofs.lemmas.Iterator.Adapters.{position_from-zero}
use Rattle.std.proofs.lemmas.List.Sums.{sum_by-cons}
use Rattle.eutxo_types.specs.Machine.declared.datum.Datum.{Datum}
use Rattle.eutxo_types.specs.declared.fault.TxFault.{TxFault}
use Rattle.eutxo_types.specs.declared.fault.TxFault.TheVariants.{StrayContract, TooManyContracts}
use Rattle.eutxo_types.specs.declared.lock.Lock.{Lock}
use Rattle.eutxo_types.specs.declared.lock.Lock.TheVariants.{Key, Payout, Contract}
use Rattle.eutxo_types.specs.declared.output.Output.{Output}
use Rattle.eutxo_types.specs.declared.output_ref.OutputRef.{OutputRef}
use Rattle.eutxo_types.specs.declared.spend.Spend.{Spend}
use Rattle.eutxo_types.specs.declared.tx.Tx.{Tx}
use Rattle.eutxo_types.specs.Parts.{is_contract, contract_in}
use Rattle.eutxo.specs.declared.validator.StepAnswer.{StepAnswer}
use Rattle.eutxo.specs.declared.validator.StepAnswer.TheVariants.{Refused, Takes}
use Rattle.eutxo.specs.Asked.{Judges}
use Rattle.eutxo.specs.Blocks.{Block, answer_by, step_asked, is_continuing, block_fault, step_fault, step_fault_unless}
use Rattle.eutxo.specs.Faults.{first_of, first_index, fault_if}
use Rattle.eutxo.specs.Local.{spent_fault}
use Rattle.eutxo.specs.OneContract.{after_answer, script_fault, lone_step_fault, lone_fault_unless, lone_fault, AreNamed, OneIsJudgedAlone}
use Rattle.eutxo.specs.Rules.{Step, or_step, steps_of, not_signed, too_many_contracts, wrong_redeemer, role_missing, not_preserved, wrong_datum}

-- ---- the same stray outputs

abbrev holds : Output → Bool
holds o = is_contract o.lock

from_place : (p : ℕ → Output → Bool) (a n : ℕ) (os : List Output) → ((i : ℕ) (o : Output) → a ≤ i → p i o ≡ holds o) → first_index p (a + n) os ≡ option_map (λ (k : ℕ). a + k) (position_from holds n os)
from_place p a n [] same = refl
from_place p a n (o ∷ os) same =
    let e : (a + n) + 1 ≡ a + (n + 1) = omega arith in
    let l : a ≤ a + n = omega arith in
    ap (λ (b : Bool). if b then Some (a + n) else first_index p ((a + n) + 1) os) (same (a + n) o l)
    ∙ ap (λ (i : ℕ). if holds o then Some (a + n) else first_index p i os) e
    ∙ by (holds o) (from_place p a (n + 1) os same)
  where
    by : (b : Bool) → first_index p (a + (n + 1)) os ≡ option_map (λ (k : ℕ). a + k) (position_from holds (n + 1) os) →
        (if b then Some (a + n) else first_index p (a + (n + 1)) os) ≡ option_map (λ (k : ℕ). a + k) (cond b (Some n) (position_from holds (n + 1) os))
    by true h = refl
    by false h = h

mapped_twice : (a : ℕ) (z : Option ℕ) → option_map StrayContract (option_map (λ (k : ℕ). a + k) z) ≡ option_map (λ (k : ℕ). StrayContract (a + k)) z
mapped_twice a None = refl
mapped_twice a (Some k) = refl

and_true : (b : Bool) → (b && true) ≡ b
and_true true = refl
and_true false = refl

and_false : (b : Bool) → (b && false) ≡ false
and_false true = refl
and_false false = refl

not_zero : (i : ℕ) → 1 ≤ i → (i == 0) ≡ false
not_zero zero l = absurd (omega (arith, l))
not_zero (suc i) l = grind arith

abbrev one : OutputRef → StepAnswer → List Block
one r a = record { «from» = 0; reference = r; answer = a } ∷ []

abbrev test : OutputRef → StepAnswer → ℕ → Output → Bool
test r a i o = holds o && not (is_continuing (one r a) i)

same_stray : (r : OutputRef) (a : StepAnswer) (os : List Output) → block_fault (one r a) os ≡ after_answer os a
same_stray r (Refused f) os = refl
same_stray r (Takes (Some f) on n) os = refl
same_stray r (Takes None false n) os =
    ap (option_map StrayContract) (from_place (test r (Takes None false n)) 0 0 os (λ i o l. and_true (holds o)))
    ∙ mapped_twice 0 (position_from holds 0 os) ∙ ap (option_map (λ (k : ℕ). StrayContract (0 + k))) (sym (position_from-zero holds os))
same_stray r (Takes None true n) [] = refl
same_stray r (Takes None true n) (o ∷ os) =
    ap (λ (b : Bool). option_map StrayContract (if b then Some 0 else first_index (test r (Takes None true n)) 1 os)) (and_false (holds o))
    ∙ ap (option_map StrayContract) (from_place (test r (Takes None true n)) 1 0 os (λ i o l. ap (λ (b : Bool). holds o && not (b || false)) (not_zero i l) ∙ and_true (holds o)))
    ∙ mapped_twice 1 (position_from holds 0 os) ∙ ap (option_map (λ (k : ℕ). StrayContract (1 + k))) (sym (position_from-zero holds os))

-- ---- at most one step

-- there are no more steps than contracts
step_if : (l : Lock) (x : Spend) (ds : List Datum) (later : List Datum → List Step) (n : ℕ) → ((es : List Datum) → length (later es) ≤ n) → length (or_step (contract_in l) x ds later) ≤ cond (is_contract l) (1 + n) n
step_if (Key a) x ds later n h = h ds
step_if (Payout c r) x ds later n h = h ds
step_if (Contract script digest) x [] later n h = omega arith
step_if (Contract script digest) x (d ∷ ds) later n h = let l = h ds in omega (arith, l)

counted : (x : Spend × Output) (xs : List (Spend × Output)) → count_by (λ (x : Spend × Output). is_contract x.1.lock) (x ∷ xs) ≡ cond (is_contract x.1.lock) (1 + count_by (λ (x : Spend × Output). is_contract x.1.lock) xs) (count_by (λ (x : Spend × Output). is_contract x.1.lock) xs)
counted x xs = sum_by-cons _ x xs ∙ by (is_contract x.1.lock)
  where
    by : (b : Bool) → (cond b 1 0) + count_by (λ (x : Spend × Output). is_contract x.1.lock) xs ≡ cond b (1 + count_by (λ (x : Spend × Output). is_contract x.1.lock) xs) (count_by (λ (x : Spend × Output). is_contract x.1.lock) xs)
    by true = refl
    by false = omega arith

pub steps_few : (xs : List (Spend × Output)) (ds : List Datum) → length (steps_of xs ds) ≤ count_by (λ x. is_contract x.1.lock) xs
steps_few [] ds = omega arith
steps_few (x ∷ xs) ds =
    let l = step_if x.1.lock x.0 ds (steps_of xs) (count_by (λ (x : Spend × Output). is_contract x.1.lock) xs) (λ es. steps_few xs es) in
    let e = counted x xs in
    omega (arith, l, e)

module _ {V : Type 0} (j : Judges V) (named : List ℕ → Option V) (tx : Tx) (spent : List (Spend × Output)) where
  lone : (ss : List Step) → AreNamed named ss → length ss ≤ 1 → step_fault j named tx spent ss ≡ lone_step_fault j named tx spent ss
  lone [] n l = refl
  lone (s ∷ []) n l =
      let p = n.0 in
      ap (λ (z : Option V). block_fault (one s.reference (answer_by j z (step_asked tx spent 0 s))) tx.outputs) p.1
      ∙ same_stray s.reference (j.step p.0 (step_asked tx spent 0 s)) tx.outputs
      ∙ sym (ap (λ (z : Option V). script_fault j z (step_asked tx spent 0 s)) p.1)
  lone (s ∷ t ∷ ss) n l = absurd (omega (arith, l))

  lone_unless : (w : Option TxFault) → AreNamed named (steps_of spent tx.datums) → length (steps_of spent tx.datums) ≤ 1 → step_fault_unless w j named tx spent ≡ lone_fault_unless w j named tx spent
  lone_unless None n l = lone (steps_of spent tx.datums) n l
  lone_unless (Some f) n l = refl

without : {A : Type 0} (a b : Option A) (xs : List (Option A)) → b ≡ None → first_of (a ∷ b ∷ xs) ≡ first_of (a ∷ xs)
without (Some x) b xs e = refl
without None None xs e = refl
without None (Some y) xs e = cc

few : (n : ℕ) → nat_lt 1 n ≡ false → n ≤ 1
few n h = grind arith

not_many : (n : ℕ) → n ≤ 1 → nat_lt 8 n ≡ false
not_many n l = grind (arith, l)

pub one_is_judged_alone : {V : Type 0} (j : Judges V) → OneIsJudgedAlone j
one_is_judged_alone j named tx spent n h =
    let c = count_by (λ (x : Spend × Output). is_contract x.1.lock) spent in
    let l = few c h in
    let s = steps_few spent tx.datums in
    let k : length (steps_of spent tx.datums) ≤ 1 = omega (arith, l, s) in
    let none : too_many_contracts spent ≡ None = ap (fault_if TooManyContracts) (not_many c l) in
    without (not_signed tx.signers spent) (too_many_contracts spent) (wrong_redeemer spent ∷ role_missing j spent ∷ step_fault_unless (wrong_datum tx spent) j named tx spent ∷ not_preserved spent tx.outputs ∷ wrong_datum tx spent ∷ []) none
    ∙ ap (λ (f : Option TxFault). first_of (not_signed tx.signers spent ∷ wrong_redeemer spent ∷ role_missing j spent ∷ f ∷ not_preserved spent tx.outputs ∷ wrong_datum tx spent ∷ [])) (lone_unless j named tx spent (wrong_datum tx spent) n k)
