-- Blocks depend on what the scripts answer alone that the steps name.
use Rattle.std.proofs.Common.{◌≡◌, ℕ, ◌+◌, List, [], ◌∷◌, refl, sym, ◌∙◌, ap, Option, Some}
use Rattle.eutxo.specs.declared.validator.StepAnswer.{StepAnswer}
use Rattle.eutxo.specs.Asked.{Judges}
use Rattle.eutxo.specs.Blocks.{Block, size, answer_by, step_asked, and_blocks, blocks}
use Rattle.eutxo.specs.BlockLaws.{AnswerAll, BlocksAreAlike, BlocksStay}
use Rattle.eutxo.specs.OneContract.{AreNamed}
use Rattle.eutxo.specs.Rules.{Step}

pub blocks_are_alike : {V : Type 0} (j : Judges V) → BlocksAreAlike j
blocks_are_alike j a b tx spent [] i h = refl
blocks_are_alike j a b tx spent (s ∷ ss) i h =
    ap (λ (z : StepAnswer). and_blocks i s.reference z (blocks j a tx spent ss)) (h.0 (step_asked tx spent i s))
    ∙ ap (λ (l : List Block). record { «from» = i; reference = s.reference; answer = answer_by j (b s.script) (step_asked tx spent i s) } ∷ l)
    (blocks_are_alike j a b tx spent ss (i + size (answer_by j (b s.script) (step_asked tx spent i s))) h.1)

alike_so : {V : Type 0} (j : Judges V) (a b : List ℕ → Option V) → ((id : List ℕ) (v : V) → a id ≡ Some v → b id ≡ Some v) → (ss : List Step) → AreNamed a ss → AnswerAll j a b ss
alike_so j a b more [] h = tt
alike_so j a b more (s ∷ ss) h =
    let p = h.0 in
    (λ x. ap (λ (z : Option _). answer_by j z x) (p.1 ∙ sym (more s.script p.0 p.1)), alike_so j a b more ss h.1)

pub blocks_stay : {V : Type 0} (j : Judges V) → BlocksStay j
blocks_stay j a b tx spent ss i more h = blocks_are_alike j a b tx spent ss i (alike_so j a b more ss h)
