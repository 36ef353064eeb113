-- A step is accepted as steps of one part.
use Rattle.std.proofs.Common.{◌≡◌, ℕ, List, [], ◌∷◌, sym, subst, Option, Some, None}
use Rattle.std.proofs.lemmas.List.Elements.{All-nil, All-cons}
use Rattle.builder_spec.specs.EutxoTypes.declared.tx.Tx.{Tx}
use Rattle.builder_spec.specs.Roles.declared.published.Published.{Published}
use Rattle.builder_spec.specs.Ledger.declared.look.Look.{Look}
use Rattle.builder_spec.specs.Ledger.declared.look.Unspent.{Unspent}
use Rattle.builder_spec.specs.Requests.{StepRequest, one_part}
use Rattle.builder_spec.specs.Steps.{Thread, Stepped, stepped, look_thread, step_spent}
use Rattle.builder_spec.specs.Parts.{hinders_step, layout_step}
use Rattle.builder_spec.proofs.OnePartLaws.{threads_alone, spent_alone}
use Rattle.ledger_spec.specs.Headline.{AcceptsBuilt}

pub step_accepted : {named : List ℕ → Option Published} {IsFree : List Unspent → Tx → Type 0} {IsAccepted : Tx → Type 0} → AcceptsBuilt named IsFree IsAccepted → (look : Look) (r : StepRequest) (e : Thread) →
    look_thread look ≡ Some e → hinders_step look r ≡ None → named e.shown.published.id ≡ Some e.shown.published → IsFree (step_spent r e) (layout_step look r) → IsAccepted (layout_step look r)
step_accepted {named = named} {IsFree = IsFree} built look r e shown clear there free =
    let P : Stepped → Type 0 = λ s. named s.thread.shown.published.id ≡ Some s.thread.shown.published in
    built.parts (one_part look r) (stepped r e ∷ []) (threads_alone look r e shown) clear (All-cons P (stepped r e) [] there (All-nil P))
    (subst (λ us. IsFree us (layout_step look r)) (sym (spent_alone look r e)) free)
