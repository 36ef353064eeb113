-- What follows where rules 12 to 16 refuse nothing, whatever the scripts; and on what blocks depend.
use Rattle.std.specs.Prelude.{◌≡◌, ℕ, true, false, List, [], ◌∷◌, slice_get, Option, Some, None}
use Rattle.eutxo_types.specs.declared.output.Output.{Output}
use Rattle.eutxo_types.specs.declared.output_ref.OutputRef.{OutputRef}
use Rattle.eutxo_types.specs.declared.spend.Spend.{Spend}
use Rattle.eutxo_types.specs.declared.tx.Tx.{Tx}
use Rattle.eutxo_types.specs.Parts.{same_ref, is_contract}
use Rattle.eutxo.specs.Asked.{Judges, Stepping}
use Rattle.eutxo.specs.Blocks.{Block, answer_by, blocks, goes_on_at, block_fault}
use Rattle.eutxo.specs.OneContract.{AreNamed}
use Rattle.eutxo.specs.Rules.{Step}

abbrev pub AllDiffer : OutputRef → List Step → Type 0
AllDiffer r [] = Unit {0}
AllDiffer r (s ∷ ss) = (same_ref r s.reference ≡ false) × AllDiffer r ss

-- no two of these steps name one output, as rule 3 wants
abbrev pub AreFresh : List Step → Type 0
AreFresh [] = Unit {0}
AreFresh (s ∷ ss) = AllDiffer s.reference ss × AreFresh ss

-- NO TWO CONTRACTS GO ON IN ONE OUTPUT, AND IN EACH CONTRACT OUTPUT ONE DOES
pub record Tell (ss : List Step) (bs : List Block) (os : List Output) : Type 0 where
  pub apart : (p q : OutputRef) (i : ℕ) → goes_on_at bs p ≡ Some i → goes_on_at bs q ≡ Some i → p ≡ q
  pub onto : (i : ℕ) (o : Output) → slice_get os i ≡ Some o → is_contract o.lock ≡ true → (n : ℕ) × (s : Step) × (slice_get ss n ≡ Some s) × (goes_on_at bs s.reference ≡ Some i)

abbrev pub BlocksTell : {V : Type 0} → Judges V → Type 0
BlocksTell {V} j =
    (named : List ℕ → Option V) (tx : Tx) (spent : List (Spend × Output)) (ss : List Step) → AreFresh ss →
    block_fault (blocks j named tx spent ss 0) tx.outputs ≡ None → Tell ss (blocks j named tx spent ss 0) tx.outputs

-- under the script that each step names, two look-ups have scripts that answer alike
abbrev pub AnswerAll : {V : Type 0} → Judges V → (List ℕ → Option V) → (List ℕ → Option V) → List Step → Type 0
AnswerAll j a b [] = Unit {0}
AnswerAll j a b (s ∷ ss) = ((x : Stepping) → answer_by j (a s.script) x ≡ answer_by j (b s.script) x) × AnswerAll j a b ss

-- then the blocks are the same
abbrev pub BlocksAreAlike : {V : Type 0} → Judges V → Type 0
BlocksAreAlike {V} j = (a b : List ℕ → Option V) (tx : Tx) (spent : List (Spend × Output)) (ss : List Step) (i : ℕ) → AnswerAll j a b ss → blocks j a tx spent ss i ≡ blocks j b tx spent ss i

-- and they stay where more is published
abbrev pub BlocksStay : {V : Type 0} → Judges V → Type 0
BlocksStay {V} j =
    (a b : List ℕ → Option V) (tx : Tx) (spent : List (Spend × Output)) (ss : List Step) (i : ℕ) → ((id : List ℕ) (v : V) → a id ≡ Some v → b id ≡ Some v) → AreNamed a ss →
    blocks j a tx spent ss i ≡ blocks j b tx spent ss i
