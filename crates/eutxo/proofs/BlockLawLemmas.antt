-- No two contracts go on in one output, and in each contract output of a step one does.
use Rattle.std.proofs.Common.{◌≡◌, ℕ, zero, suc, ◌+◌, ◌≤◌, Bool, true, false, not, ◌&&◌, ◌||◌, List, [], ◌∷◌, refl, sym, ◌∙◌, ap, subst, arith, Option, Some, None}
use Rattle.std.specs.Prelude.{◌==◌, if◌then◌else◌}
use Rattle.std.specs.List.{slice_get}
use Rattle.std.specs.Option.{option_map}
use Rattle.std.proofs.lemmas.Bool.{eqb-true}
use Rattle.eutxo_types.specs.declared.fault.TxFault.{TxFault}
use Rattle.eutxo_types.specs.declared.fault.TxFault.TheVariants.{StrayContract}
use Rattle.eutxo_types.specs.declared.output.Output.{Output}
use Rattle.eutxo_types.specs.declared.output_ref.OutputRef.{OutputRef}
use Rattle.eutxo_types.specs.declared.spend.Spend.{Spend}
use Rattle.eutxo_types.specs.declared.tx.Tx.{Tx}
use Rattle.eutxo_types.specs.Parts.{same_ref, is_contract}
use Rattle.eutxo.specs.declared.validator.StepAnswer.{StepAnswer}
use Rattle.eutxo.specs.declared.validator.StepAnswer.TheVariants.{Refused, Takes}
use Rattle.eutxo.specs.Asked.{Judges}
use Rattle.eutxo.specs.Blocks.{Block, size, answer_by, step_asked, blocks, continues, goes_on_at, lowest, faults_in, is_place, is_continuing, stray_contract, block_fault}
use Rattle.eutxo.specs.BlockLaws.{AllDiffer, AreFresh, Tell, BlocksTell}
use Rattle.eutxo.specs.Faults.{or_else, first_index}
use Rattle.eutxo.specs.Rules.{Step}
use Rattle.eutxo.proofs.SameRefLaws.{same_ref_so, same_ref-refl}

same_some : {A : Type 0} (a b : A) → ◌≡◌ {A = Option A} (Some a) (Some b) → a ≡ b
same_some a b e = cc

-- a contract that goes on does so where its block begins, which isn't empty
continues_so : (i k : ℕ) (a : StepAnswer) → continues i a ≡ Some k → (i ≡ k) × (1 ≤ size a)
continues_so i k (Refused f) h = cc
continues_so i k (Takes f true n) h = (same_some i k h, omega arith)
continues_so i k (Takes f false n) h = cc

module _ {V : Type 0} (j : Judges V) (named : List ℕ → Option V) (tx : Tx) (spent : List (Spend × Output)) where
  abbrev answer : ℕ → Step → StepAnswer
  answer i s = answer_by j (named s.script) (step_asked tx spent i s)

  abbrev all : List Step → ℕ → List Block
  all ss i = blocks j named tx spent ss i

  -- no place falls
  later : (i : ℕ) (ss : List Step) (r : OutputRef) (k : ℕ) → goes_on_at (all ss i) r ≡ Some k → i ≤ k
  later i [] r k h = cc
  later i (s ∷ ss) r k h = by (same_ref s.reference r) h (later (i + size (answer i s)) ss r k)
    where
      by : (b : Bool) → (if b then continues i (answer i s) else goes_on_at (all ss (i + size (answer i s))) r) ≡ Some k →
          (goes_on_at (all ss (i + size (answer i s))) r ≡ Some k → (i + size (answer i s)) ≤ k) → i ≤ k
      by true h go = let e = (continues_so i k (answer i s) h).0 in omega (arith, e)
      by false h go = let l = go h in omega (arith, l)

  apart : (i : ℕ) (ss : List Step) (p q : OutputRef) (k : ℕ) → goes_on_at (all ss i) p ≡ Some k → goes_on_at (all ss i) q ≡ Some k → p ≡ q
  apart i [] p q k h g = cc
  apart i (s ∷ ss) p q k h g = by (same_ref s.reference p) (same_ref s.reference q) refl refl h g (apart (i + size (answer i s)) ss p q k)
    where
      crossed : (r : OutputRef) → continues i (answer i s) ≡ Some k → goes_on_at (all ss (i + size (answer i s))) r ≡ Some k → ⊥
      crossed r a b =
          let c = continues_so i k (answer i s) a in
          let e = c.0 in
          let w = c.1 in
          let l = later (i + size (answer i s)) ss r k b in
          omega (arith, e, w, l)

      by : (a b : Bool) → same_ref s.reference p ≡ a → same_ref s.reference q ≡ b → (if a then continues i (answer i s) else goes_on_at (all ss (i + size (answer i s))) p) ≡ Some k →
          (if b then continues i (answer i s) else goes_on_at (all ss (i + size (answer i s))) q) ≡ Some k →
          (goes_on_at (all ss (i + size (answer i s))) p ≡ Some k → goes_on_at (all ss (i + size (answer i s))) q ≡ Some k → p ≡ q) → p ≡ q
      by true true e f h g go = sym (same_ref_so s.reference p e) ∙ same_ref_so s.reference q f
      by true false e f h g go = absurd (crossed q h g)
      by false true e f h g go = absurd (crossed p g h)
      by false false e f h g go = go h g

  -- ---- in each contract output one goes on

  record Found (i : ℕ) (ss : List Step) (k : ℕ) : Type 0 where
    pub number : ℕ
    pub step : Step
    pub at : slice_get ss number ≡ Some step
    pub goes : goes_on_at (all ss i) step.reference ≡ Some k

  differ_at : (r : OutputRef) (n : ℕ) (ss : List Step) (s : Step) → AllDiffer r ss → slice_get ss n ≡ Some s → same_ref r s.reference ≡ false
  differ_at r n [] s d h = cc
  differ_at r zero (t ∷ ss) s d h = subst (λ (z : Step). same_ref r z.reference ≡ false) (same_some t s h) d.0
  differ_at r (suc n) (t ∷ ss) s d h = differ_at r n ss s d.1 h

  place_so : (k : ℕ) (o : Option ℕ) → is_place k o ≡ true → o ≡ Some k
  place_so k None h = cc
  place_so k (Some i) h = ap (λ (z : ℕ). Some z) (sym (eqb-true k i h))

  found : (i : ℕ) (ss : List Step) (k : ℕ) → AreFresh ss → is_continuing (all ss i) k ≡ true → Found i ss k
  found i [] k f h = cc
  found i (s ∷ ss) k f h = by (is_place k (continues i (answer i s))) refl h (found (i + size (answer i s)) ss k f.1)
    where
      by : (b : Bool) → is_place k (continues i (answer i s)) ≡ b → (b || is_continuing (all ss (i + size (answer i s))) k) ≡ true → (is_continuing (all ss (i + size (answer i s))) k ≡ true → Found (i + size (answer i s)) ss k) → Found i (s ∷ ss) k
      by true e h go = record {
        number = 0;
        step = s;
        at = refl;
        goes = ap (λ (b : Bool). if b then continues i (answer i s) else goes_on_at (all ss (i + size (answer i s))) s.reference) (same_ref-refl s.reference) ∙ place_so k (continues i (answer i s)) e;
      }
      by false e h go =
          let g = go h in
          record {
            number = suc g.number;
            step = g.step;
            at = g.at;
            goes = ap (λ (b : Bool). if b then continues i (answer i s) else goes_on_at (all ss (i + size (answer i s))) g.step.reference) (differ_at s.reference g.number ss g.step f.0 g.at) ∙ g.goes;
          }

  unplaced_if : (b : Bool) (n : ℕ) (rest : Option ℕ) → (if b then Some n else rest) ≡ None → (b ≡ false) × (rest ≡ None)
  unplaced_if true n rest h = cc
  unplaced_if false n rest h = (refl, h)

  unplaced : {A : Type 0} (test : ℕ → A → Bool) (n : ℕ) (xs : List A) (i : ℕ) (x : A) → first_index test n xs ≡ None → slice_get xs i ≡ Some x → test (n + i) x ≡ false
  unplaced test n [] i x h e = cc
  unplaced test n (y ∷ xs) zero x h e =
      let p = (unplaced_if (test n y) n (first_index test (n + 1) xs) h).0 in
      let z : n ≡ n + 0 = omega arith in
      subst (λ (k : ℕ). test k x ≡ false) z (subst (λ w. test n w ≡ false) (same_some y x e) p)
  unplaced test n (y ∷ xs) (suc i) x h e =
      let p = (unplaced_if (test n y) n (first_index test (n + 1) xs) h).1 in
      let z : (n + 1) + i ≡ n + suc i = omega arith in
      subst (λ (k : ℕ). test k x ≡ false) z (unplaced test (n + 1) xs i x p e)

  neither : (a : Option TxFault) (b : Option TxFault) → or_else a b ≡ None → b ≡ None
  neither None b h = h
  neither (Some f) b h = cc

  none_mapped : {A B : Type 0} (f : A → B) (o : Option A) → option_map f o ≡ None → o ≡ None
  none_mapped f None h = refl
  none_mapped f (Some a) h = cc

  so_true : (a b : Bool) → a ≡ true → (a && not b) ≡ false → b ≡ true
  so_true true true e h = refl
  so_true true false e h = cc
  so_true false b e h = cc

  tell : (ss : List Step) → AreFresh ss → block_fault (all ss 0) tx.outputs ≡ None → Tell ss (all ss 0) tx.outputs
  tell ss fresh h = record {
    apart = λ p q i a b. apart 0 ss p q i a b;
    onto = λ i o at c.
        let none = none_mapped StrayContract _ (neither (lowest (faults_in (all ss 0))) (stray_contract (all ss 0) tx.outputs) h) in
        let u = unplaced (λ (i : ℕ) (o : Output). is_contract o.lock && not (is_continuing (all ss 0) i)) 0 tx.outputs i o none at in
        let place : 0 + i ≡ i = omega arith in
        let g = found 0 ss i fresh (subst (λ (k : ℕ). is_continuing (all ss 0) k ≡ true) place (so_true (is_contract o.lock) (is_continuing (all ss 0) (0 + i)) c u)) in
        (g.number, g.step, g.at, g.goes);
  }

pub blocks_tell : {V : Type 0} (j : Judges V) → BlocksTell j
blocks_tell j named tx spent ss fresh h = tell j named tx spent ss fresh h
