-- The block of a step among those of a transaction that no rule of steps refuses.
use Rattle.std.proofs.Common.{◌≡◌, ℕ, zero, suc, ◌+◌, Bool, true, false, List, [], ◌∷◌, refl, ◌∙◌, ap, subst, Option, Some, None}
use Rattle.std.specs.Prelude.{if◌then◌else◌, nat_lt}
use Rattle.std.specs.List.{slice_get, cons_option}
use Rattle.roles.specs.EutxoTypes.declared.fault.TxFault.{TxFault}
use Rattle.roles.specs.EutxoTypes.declared.output.Output.{Output}
use Rattle.roles.specs.EutxoTypes.declared.output_ref.OutputRef.{OutputRef}
use Rattle.roles.specs.EutxoTypes.declared.spend.Spend.{Spend}
use Rattle.roles.specs.EutxoTypes.declared.tx.Tx.{Tx}
use Rattle.roles.specs.EutxoTypes.Numbers.{number}
use Rattle.roles.specs.EutxoTypes.Parts.{same_ref}
use Rattle.roles.specs.Eutxo.declared.validator.StepAnswer.{StepAnswer}
use Rattle.roles.specs.Eutxo.Asked.{Judges}
use Rattle.roles.specs.Eutxo.Blocks.{Block, size, answer_by, step_asked, blocks, continues, goes_on_at, stands_from, fault_in, lower, lowest, faults_in, stray_contract, block_fault, step_fault}
use Rattle.roles.specs.Eutxo.BlockLaws.{AllDiffer, AreFresh}
use Rattle.roles.specs.Eutxo.Faults.{or_else}
use Rattle.roles.specs.Eutxo.Rules.{Step}
use Rattle.roles.proofs.FromEutxo.SameRefLaws.{same_ref-refl}
use Rattle.ledger_laws.proofs.PlainLaws.{same_some}

-- ---- no block has a fault

lower_some : (f : TxFault) (z : Option TxFault) → lower f z ≡ None → ⊥
lower_some f None h = cc
lower_some f (Some g) h = by (nat_lt (number g) (number f)) h
  where
    by : (b : Bool) → (if b then Some g else Some f) ≡ None → ⊥
    by true h = cc
    by false h = cc

none_of : (o : Option TxFault) (fs : List TxFault) → lowest (cons_option o fs) ≡ None → (o ≡ None) × (lowest fs ≡ None)
none_of None fs h = (refl, h)
none_of (Some f) fs h = absurd (lower_some f (lowest fs) h)

none_low : (b : Block) (bs : List Block) → lowest (faults_in (b ∷ bs)) ≡ None → (fault_in b.answer ≡ None) × (lowest (faults_in bs) ≡ None)
none_low b bs h = none_of (fault_in b.answer) (faults_in bs) h

or_first : (a b : Option TxFault) → or_else a b ≡ None → a ≡ None
or_first None b h = refl
or_first (Some f) b h = cc

-- ---- the block of a step

module _ {V : Type 0} (j : Judges V) (named : List ℕ → Option V) (tx : Tx) (spent : List (Spend × Output)) where
  -- where there is a step, the rules of steps are judged
  pub blocks_pass : (ss : List Step) (n : ℕ) (s : Step) → step_fault j named tx spent ss ≡ None → slice_get ss n ≡ Some s → block_fault (blocks j named tx spent ss 0) tx.outputs ≡ None
  blocks_pass [] n s h e = cc
  blocks_pass (t ∷ ss) n s h e = h

  abbrev pub answer : ℕ → Step → StepAnswer
  answer i s = answer_by j (named s.script) (step_asked tx spent i s)

  pub record BlockOf (bs : List Block) (s : Step) : Type 0 where
    pub from : ℕ
    pub stands : stands_from bs s.reference ≡ Some from
    pub goes : goes_on_at bs s.reference ≡ continues from (answer_by j (named s.script) (step_asked tx spent from s))
    pub passes : fault_in (answer_by j (named s.script) (step_asked tx spent from s)) ≡ None

  differ_at : (r : OutputRef) (n : ℕ) (ss : List Step) (s : Step) → AllDiffer r ss → slice_get ss n ≡ Some s → same_ref r s.reference ≡ false
  differ_at r n [] s d h = cc
  differ_at r zero (t ∷ ss) s d h = subst (λ (z : Step). same_ref r z.reference ≡ false) (same_some t s h) d.0
  differ_at r (suc n) (t ∷ ss) s d h = differ_at r n ss s d.1 h

  abbrev first : ℕ → Step → Block
  first i t = record { «from» = i; reference = t.reference; answer = answer i t }

  abbrev rest : ℕ → Step → List Step → List Block
  rest i t ss = blocks j named tx spent ss (i + size (answer i t))

  found : (i : ℕ) (ss : List Step) (n : ℕ) (s : Step) → AreFresh ss → lowest (faults_in (blocks j named tx spent ss i)) ≡ None → slice_get ss n ≡ Some s → BlockOf (blocks j named tx spent ss i) s
  found i [] n s f h e = cc
  found i (t ∷ ss) zero s f h e =
      let low = none_low (first i t) (rest i t ss) h in
      subst (BlockOf (blocks j named tx spent (t ∷ ss) i)) (same_some t s e)
      (record {
        «from» = i;
        stands = ap (λ (b : Bool). if b then Some i else stands_from (rest i t ss) t.reference) (same_ref-refl t.reference);
        goes = ap (λ (b : Bool). if b then continues i (answer i t) else goes_on_at (rest i t ss) t.reference) (same_ref-refl t.reference);
        passes = low.0;
      })
  found i (t ∷ ss) (suc n) s f h e =
      let low = none_low (first i t) (rest i t ss) h in
      let b = found (i + size (answer i t)) ss n s f.1 low.1 e in
      let q = differ_at t.reference n ss s f.0 e in
      record {
        «from» = b.«from»;
        stands = ap (λ (b : Bool). if b then Some i else stands_from (rest i t ss) s.reference) q ∙ b.stands;
        goes = ap (λ (b : Bool). if b then continues i (answer i t) else goes_on_at (rest i t ss) s.reference) q ∙ b.goes;
        passes = b.passes;
      }

  pub block_of : (ss : List Step) (n : ℕ) (s : Step) → AreFresh ss → step_fault j named tx spent ss ≡ None → slice_get ss n ≡ Some s → BlockOf (blocks j named tx spent ss 0) s
  block_of ss n s f h e =
      found 0 ss n s f (or_first (lowest (faults_in (blocks j named tx spent ss 0))) (stray_contract (blocks j named tx spent ss 0) tx.outputs) (blocks_pass ss n s h e)) e

  -- also where steps name one output, each is taken somewhere without a fault
  taken : (i : ℕ) (ss : List Step) (n : ℕ) (s : Step) → lowest (faults_in (blocks j named tx spent ss i)) ≡ None → slice_get ss n ≡ Some s →
      (k : ℕ) × (fault_in (answer_by j (named s.script) (step_asked tx spent k s)) ≡ None)
  taken i [] n s h e = cc
  taken i (t ∷ ss) zero s h e = (i, subst (λ (z : Step). fault_in (answer i z) ≡ None) (same_some t s e) (none_low (first i t) (rest i t ss) h).0)
  taken i (t ∷ ss) (suc n) s h e = taken (i + size (answer i t)) ss n s (none_low (first i t) (rest i t ss) h).1 e

  pub taken_at : (ss : List Step) (n : ℕ) (s : Step) → step_fault j named tx spent ss ≡ None → slice_get ss n ≡ Some s → (k : ℕ) × (fault_in (answer_by j (named s.script) (step_asked tx spent k s)) ≡ None)
  taken_at ss n s h e =
      taken 0 ss n s (or_first (lowest (faults_in (blocks j named tx spent ss 0))) (stray_contract (blocks j named tx spent ss 0) tx.outputs) (blocks_pass ss n s h e)) e
