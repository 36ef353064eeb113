-- A walk over what is spent comes over the blocks of all steps.
use Rattle.std.proofs.Common.{◌≡◌, ◌≢◌, ℕ, zero, suc, ◌+◌, ◌<◌, ◌≤◌, Bool, true, false, List, [], ◌∷◌, ◌++◌, refl, sym, ◌∙◌, ap, subst, arith, Option, Some, None, drop, length, get_or, append_assoc}
use Rattle.std.specs.Prelude.{nat_lt, if◌then◌else◌, count_by, IfSome}
use Rattle.std.specs.List.{slice_get, cons_option}
use Rattle.std.specs.Option.{option_map}
use Rattle.std.proofs.lemmas.List.{at_drop_more, drop_all, append-nil, length-append}
use Rattle.std.proofs.lemmas.Bool.{ltb-true, ltb-false}
use Rattle.eutxo_types.specs.Machine.declared.datum.Datum.{Datum}
use Rattle.eutxo_types.specs.declared.fault.TxFault.{TxFault}
use Rattle.eutxo_types.specs.declared.fault.TxFault.TheVariants.{StrayContract, TooManyContracts}
use Rattle.eutxo_types.specs.declared.output.Output.{Output}
use Rattle.eutxo_types.specs.declared.output_ref.OutputRef.{OutputRef}
use Rattle.eutxo_types.specs.declared.spend.Spend.{Spend}
use Rattle.eutxo_types.specs.declared.tx.Tx.{Tx}
use Rattle.eutxo_types.specs.Numbers.{number}
use Rattle.eutxo_types.specs.Parts.{ContractLock, contract_in, is_contract}
use Rattle.eutxo.specs.declared.block_rules.Walked.{Walked}
use Rattle.eutxo.specs.declared.judged.Judged.{Judged}
use Rattle.eutxo.specs.declared.validator.StepAnswer.{StepAnswer}
use Rattle.eutxo.specs.Asked.{Judges}
use Rattle.eutxo.specs.Blocks.{Block, size, answer_by, step_asked, blocks, continues, places_in, fault_in, lower, lowest, faults_in, step_fault}
use Rattle.eutxo.specs.BlocksSupport.{lower_of, stray_index, with_block, step_with, step_here, and_step, blocks_left}
use Rattle.eutxo.specs.Faults.{or_else, fault_if}
use Rattle.eutxo.specs.Local.{judged_as}
use Rattle.eutxo.specs.Rules.{Step, or_step, steps_of, too_many_contracts, wrong_start}
use Rattle.eutxo.proofs.OneContractLemmas.{steps_few}

same_some : {A : Type 0} (a b : A) → ◌≡◌ {A = Option A} (Some a) (Some b) → a ≡ b
same_some a b e = cc

-- ---- the lowest

lower-none : (a : Option TxFault) → lower_of a None ≡ a
lower-none None = refl
lower-none (Some f) = refl

through : (a b c : ℕ) (x : Bool) → nat_lt b c ≡ true → nat_lt a b ≡ true → nat_lt a c ≡ x → x ≡ true
through a b c true p q r = refl
through a b c false p q r = let l = ltb-true b c p in let m = ltb-true a b q in let n = ltb-false a c r in absurd (omega (arith, l, m, n))

above : (a b c : ℕ) (x : Bool) → nat_lt b c ≡ false → nat_lt a b ≡ false → nat_lt a c ≡ x → x ≡ false
above a b c false p q r = refl
above a b c true p q r = let l = ltb-false b c p in let m = ltb-false a b q in let n = ltb-true a c r in absurd (omega (arith, l, m, n))

-- which of three is the lowest makes no difference by the order of asking
lower_more : (e f : TxFault) (b : Option TxFault) → lower_of (lower e (Some f)) b ≡ lower e (lower f b)
lower_more e f None = lower-none (lower e (Some f))
lower_more e f (Some g) = by (nat_lt (number f) (number e)) (nat_lt (number g) (number f)) (nat_lt (number g) (number e)) refl refl refl
  where
    by : (x y z : Bool) → nat_lt (number f) (number e) ≡ x → nat_lt (number g) (number f) ≡ y → nat_lt (number g) (number e) ≡ z →
        lower_of (if x then Some f else Some e) (Some g) ≡ lower e (if y then Some g else Some f)
    by true true z p q r =
        ap (λ (b : Bool). if b then Some g else Some f) q
        ∙ sym (ap (λ (b : Bool). if b then Some g else Some e) (r ∙ through (number g) (number f) (number e) z p q r))
    by true false z p q r =
        ap (λ (b : Bool). if b then Some g else Some f) q
        ∙ sym (ap (λ (b : Bool). if b then Some f else Some e) p)
    by false true z p q r = refl
    by false false z p q r =
        ap (λ (b : Bool). if b then Some g else Some e) (r ∙ above (number g) (number f) (number e) z p q r)
        ∙ sym (ap (λ (b : Bool). if b then Some f else Some e) p)

lower_twice : (a o c : Option TxFault) → lower_of (lower_of a o) c ≡ lower_of a (lower_of o c)
lower_twice a None c = ap (λ (z : Option TxFault). lower_of z c) (lower-none a)
lower_twice None (Some f) c = refl
lower_twice (Some e) (Some f) c = lower_more e f c

first_fault : (o : Option TxFault) (fs : List TxFault) → lowest (cons_option o fs) ≡ lower_of o (lowest fs)
first_fault None fs = refl
first_fault (Some f) fs = refl

-- ---- steps and data

no_data : (xs : List (Spend × Output)) → steps_of xs [] ≡ []
no_data [] = refl
no_data (x ∷ xs) = by (contract_in x.1.lock) (no_data xs)
  where
    by : (c : Option ContractLock) → steps_of xs [] ≡ [] → or_step c x.0 [] (steps_of xs) ≡ []
    by None r = r
    by (Some c) r = refl

drop_some : {A : Type 0} (k : ℕ) (xs : List A) (x : A) → slice_get xs k ≡ Some x → drop k xs ≡ x ∷ drop (suc k) xs
drop_some k [] x h = cc
drop_some zero (y ∷ xs) x h = ap (λ (z : _). z ∷ xs) (same_some y x h)
drop_some (suc k) (y ∷ xs) x h = drop_some k xs x h

drop_none : {A : Type 0} (k : ℕ) (xs : List A) → slice_get xs k ≡ None → drop k xs ≡ []
drop_none zero [] h = refl
drop_none (suc k) [] h = refl
drop_none zero (y ∷ xs) h = cc
drop_none (suc k) (y ∷ xs) h = drop_none k xs h

longer : {A : Type 0} (xs : List A) (y : A) → length (xs ++ y ∷ []) ≡ suc (length xs)
longer [] y = refl
longer (x ∷ xs) y = ap suc (longer xs y)

module _ (x : Spend × Output) (ds : List Datum) (k : ℕ) (rest : List (Spend × Output)) where
  stepped_here : (c : Option ContractLock) (o : Option Datum) (s : Step) → slice_get ds k ≡ o → step_with c x.0 o ≡ Some s → or_step c x.0 (drop k ds) (steps_of rest) ≡ s ∷ steps_of rest (drop (suc k) ds)
  stepped_here None o s e h = cc
  stepped_here (Some c) None s e h = cc
  stepped_here (Some c) (Some d) s e h =
      ap (λ (zs : List Datum). or_step (Some c) x.0 zs (steps_of rest)) (drop_some k ds d e)
      ∙ ap (λ (z : Step). z ∷ steps_of rest (drop (suc k) ds)) (same_some _ s h)

  not_stepped : (c : Option ContractLock) (o : Option Datum) → slice_get ds k ≡ o → step_with c x.0 o ≡ None → or_step c x.0 (drop k ds) (steps_of rest) ≡ steps_of rest (drop k ds)
  not_stepped None o e h = refl
  not_stepped (Some c) None e h =
      ap (λ (zs : List Datum). or_step (Some c) x.0 zs (steps_of rest)) (drop_none k ds e)
      ∙ sym (ap (steps_of rest) (drop_none k ds e) ∙ no_data rest)
  not_stepped (Some c) (Some d) e h = cc

-- ---- the walk

module _ {V : Type 0} (j : Judges V) (named : List ℕ → Option V) (tx : Tx) (spent : List (Spend × Output)) where
  abbrev left : Walked → ℕ → List Block
  left w i = blocks_left j named tx spent w i

  abbrev answer : Walked → Step → StepAnswer
  answer w s = answer_by j (named s.script) (step_asked tx spent w.from s)

  here : (w : Walked) (i : ℕ) (x : Spend × Output) → i < length spent → x ≡ get_or spent i x →
      steps_of (drop i spent) (drop (length w.places) tx.datums) ≡ or_step (contract_in x.1.lock) x.0 (drop (length w.places) tx.datums) (steps_of (drop (i + 1) spent))
  here w i x l e =
      at_drop_more (λ (xs : List (Spend × Output)). steps_of xs (drop (length w.places) tx.datums)) spent i x l
      ∙ ap (λ (z : Spend × Output). or_step (contract_in z.1.lock) z.0 (drop (length w.places) tx.datums) (steps_of (drop (i + 1) spent))) (sym e)

  left_more : (w : Walked) (i : ℕ) (x : Spend × Output) (s : Step) → i < length spent → x ≡ get_or spent i x → step_here tx w x ≡ Some s →
      left w i ≡ record { «from» = w.from; reference = s.reference; answer = answer w s } ∷ left (with_block w (answer w s)) (i + 1)
  left_more w i x s l e h =
      ap (λ (ss : List Step). blocks j named tx spent ss w.from)
      (here w i x l e ∙ stepped_here x tx.datums (length w.places) (drop (i + 1) spent) (contract_in x.1.lock) (slice_get tx.datums (length w.places)) s refl h)
      ∙ ap (λ (n : ℕ). record { «from» = w.from; reference = s.reference; answer = answer w s } ∷ blocks j named tx spent (steps_of (drop (i + 1) spent) (drop n tx.datums)) (w.from + size (answer w s))) (sym (longer w.places (continues w.from (answer w s))))

  left_same : (w : Walked) (i : ℕ) (x : Spend × Output) → i < length spent → x ≡ get_or spent i x → step_here tx w x ≡ None → left w i ≡ left w (i + 1)
  left_same w i x l e h =
      ap (λ (ss : List Step). blocks j named tx spent ss w.from)
      (here w i x l e ∙ not_stepped x tx.datums (length w.places) (drop (i + 1) spent) (contract_in x.1.lock) (slice_get tx.datums (length w.places)) refl h)

  pub lowest_walk : (w : Walked) (i : ℕ) (x : Spend × Output) → i < length spent → x ≡ get_or spent i x →
      lower_of (and_step j named tx spent w (step_here tx w x)).lowest (lowest (faults_in (blocks_left j named tx spent (and_step j named tx spent w (step_here tx w x)) (i + 1))))
      ≡ lower_of w.lowest (lowest (faults_in (blocks_left j named tx spent w i)))
  lowest_walk w i x l e = by (step_here tx w x) refl
    where
      by : (o : Option Step) → step_here tx w x ≡ o →
          lower_of (and_step j named tx spent w o).lowest (lowest (faults_in (left (and_step j named tx spent w o) (i + 1)))) ≡ lower_of w.lowest (lowest (faults_in (left w i)))
      by None h = ap (λ (bs : List Block). lower_of w.lowest (lowest (faults_in bs))) (sym (left_same w i x l e h))
      by (Some s) h =
          lower_twice w.lowest (fault_in (answer w s)) (lowest (faults_in (left (with_block w (answer w s)) (i + 1))))
          ∙ ap (lower_of w.lowest) (sym (first_fault (fault_in (answer w s)) (faults_in (left (with_block w (answer w s)) (i + 1)))))
          ∙ ap (λ (bs : List Block). lower_of w.lowest (lowest (faults_in bs))) (sym (left_more w i x s l e h))

  pub places_walk : (w : Walked) (i : ℕ) (x : Spend × Output) → i < length spent → x ≡ get_or spent i x →
      (and_step j named tx spent w (step_here tx w x)).places ++ places_in (blocks_left j named tx spent (and_step j named tx spent w (step_here tx w x)) (i + 1))
      ≡ w.places ++ places_in (blocks_left j named tx spent w i)
  places_walk w i x l e = by (step_here tx w x) refl
    where
      by : (o : Option Step) → step_here tx w x ≡ o →
          (and_step j named tx spent w o).places ++ places_in (left (and_step j named tx spent w o) (i + 1)) ≡ w.places ++ places_in (left w i)
      by None h = ap (λ (bs : List Block). w.places ++ places_in bs) (sym (left_same w i x l e h))
      by (Some s) h =
          append_assoc w.places (continues w.from (answer w s) ∷ []) (places_in (left (with_block w (answer w s)) (i + 1)))
          ∙ ap (λ (bs : List Block). w.places ++ places_in bs) (sym (left_more w i x s l e h))

  -- where all is walked over
  ended : (w : Walked) (i : ℕ) → length spent ≤ i → left w i ≡ []
  ended w i l = ap (λ (xs : List (Spend × Output)). blocks j named tx spent (steps_of xs (drop (length w.places) tx.datums)) w.from) (drop_all i spent l)

  pub lowest_end : (w : Walked) (i : ℕ) → length spent ≤ i → lower_of w.lowest (lowest (faults_in (blocks_left j named tx spent w i))) ≡ w.lowest
  lowest_end w i l = ap (λ (bs : List Block). lower_of w.lowest (lowest (faults_in bs))) (ended w i l) ∙ lower-none w.lowest

  pub places_end : (w : Walked) (i : ℕ) → length spent ≤ i → w.places ++ places_in (blocks_left j named tx spent w i) ≡ w.places
  places_end w i l = ap (λ (bs : List Block). w.places ++ places_in bs) (ended w i l) ∙ append-nil w.places

  -- there are as many places as steps
  as_many : (ss : List Step) (i : ℕ) → length (places_in (blocks j named tx spent ss i)) ≡ length ss
  as_many [] i = refl
  as_many (s ∷ ss) i = ap suc (as_many ss (i + size (answer_by j (named s.script) (step_asked tx spent i s))))

  pub room : (w : Walked) (i : ℕ) (x : Spend × Output) → i < length spent → x ≡ get_or spent i x → length (steps_of spent tx.datums) ≤ 8 →
      w.places ++ places_in (blocks_left j named tx spent w i) ≡ places_in (blocks j named tx spent (steps_of spent tx.datums) 0) →
      IfSome (step_here tx w x) (λ s. length w.places < 8)
  room w i x l e few p = by (step_here tx w x) refl
    where
      by : (o : Option Step) → step_here tx w x ≡ o → IfSome o (λ s. length w.places < 8)
      by None h = tt
      by (Some s) h =
          let b = continues w.from (answer w s) in
          let bs = places_in (left (with_block w (answer w s)) (i + 1)) in
          let q : w.places ++ b ∷ bs ≡ places_in (blocks j named tx spent (steps_of spent tx.datums) 0) = ap (λ (bs : List Block). w.places ++ places_in bs) (sym (left_more w i x s l e h)) ∙ p in
          let n : length w.places + length (b ∷ bs) ≡ length (steps_of spent tx.datums) = sym (length-append w.places (b ∷ bs)) ∙ ap length q ∙ as_many (steps_of spent tx.datums) 0 in
          let m : length (b ∷ bs) ≡ suc (length bs) = refl in
          omega (arith, n, m, few)

  -- ---- what follows

  judged_so : (f g : Option TxFault) (ps qs : List (Option ℕ)) → f ≡ g → ps ≡ qs → judged_as f ps ≡ judged_as g qs
  judged_so f g ps qs e d = ap (λ (z : Option TxFault). judged_as z ps) e ∙ ap (judged_as g) d

  pub started : (ss : List Step) (ps : List (Option ℕ)) (f : Option TxFault) → ps ≡ places_in (blocks j named tx spent ss 0) → length ps ≡ 0 → f ≡ wrong_start j named tx →
      judged_as f ps ≡ judged_as (step_fault j named tx spent ss) (places_in (blocks j named tx spent ss 0))
  started [] ps f e n d = judged_so f (wrong_start j named tx) ps [] d e
  started (s ∷ ss) ps f e n d =
      let m : length ps ≡ suc (length ss) = ap length e ∙ as_many (s ∷ ss) 0 in
      absurd (omega (arith, n, m))

  pub stepped : (ss : List Step) (ps : List (Option ℕ)) (f : Option TxFault) → f ≡ lowest (faults_in (blocks j named tx spent ss 0)) → ps ≡ places_in (blocks j named tx spent ss 0) → length ps ≢ 0 →
      judged_as (or_else f (option_map StrayContract (stray_index ps tx.outputs))) ps ≡ judged_as (step_fault j named tx spent ss) (places_in (blocks j named tx spent ss 0))
  stepped [] ps f d e n = absurd (n (ap length e))
  stepped (s ∷ ss) ps f d e n =
      ap (λ (z : Option TxFault). judged_as (or_else z (option_map StrayContract (stray_index ps tx.outputs))) ps) d
      ∙ ap (λ (qs : List (Option ℕ)). judged_as (or_else (lowest (faults_in (blocks j named tx spent (s ∷ ss) 0))) (option_map StrayContract (stray_index qs tx.outputs))) qs) e

-- ---- at most eight

eight : (n : ℕ) → nat_lt 8 n ≡ false → n ≤ 8
eight n h = ltb-false 8 n h

unless : (b : Bool) (f : TxFault) → fault_if f b ≡ None → b ≡ false
unless true f h = cc
unless false f h = refl

pub few_steps : (spent : List (Spend × Output)) (ds : List Datum) → too_many_contracts spent ≡ None → length (steps_of spent ds) ≤ 8
few_steps spent ds h =
    let c = count_by (λ (x : Spend × Output). is_contract x.1.lock) spent in
    let l = eight c (unless (nat_lt 8 c) TooManyContracts h) in
    let s = steps_few spent ds in
    omega (arith, l, s)
