-- A step, taken apart: what hinders steps of one part and how they are laid out, in the words of one thread.
use Rattle.std.proofs.Common.{◌≡◌, Bool, true, false, ◌||◌, List, [], ◌∷◌, ◌++◌, refl, ap, Option, Some, None}
use Rattle.std.specs.Prelude.{if◌then◌else◌, map, nat_lt, length}
use Rattle.std.proofs.lemmas.List.{append-nil}
use Rattle.contract.specs.declared.input.Input.{Input}
use Rattle.ledger.specs.Semantics.Walk.{answer_of}
use Rattle.ledger.specs.EutxoTypes.declared.tx.Tx.{Tx}
use Rattle.ledger.specs.Eutxo.Faults.{first_of}
use Rattle.ledger.specs.declared.look.Look.{Look}
use Rattle.ledger.specs.declared.look.Unspent.{Unspent}
use Rattle.builder_spec.specs.declared.fault.BuildFault.{BuildFault}
use Rattle.builder_spec.specs.declared.fault.BuildFault.TheVariants.{NoThread, TooMany}
use Rattle.builder_spec.specs.Causes.{signature_cause, funds_cause, limit_cause, repeat_cause}
use Rattle.builder_spec.specs.Fronts.{front}
use Rattle.builder_spec.specs.Laying.{by_key, by_step, paid_to, rest}
use Rattle.builder_spec.specs.Requests.{StepRequest, StepsRequest, one_part}
use Rattle.builder_spec.specs.Steps.{Thread, Stepped, look_thread, semantics_cause, authority_cause, roles_of, deposits, own_output, stepped, step_walk, step_front, step_spent, step_outputs, next_data_of}
use Rattle.builder_spec.specs.Parts.{and_stepped, agreeing, threads_of, parts_front, parts_spent, parts_limit_cause, hinders_threads, hinders_parts, layout_threads, layout_parts, hinders_step, layout_step}

-- ---- the words of one thread

abbrev pub step_limit_cause : List Input → List Unspent → Option BuildFault
step_limit_cause xs spent = if nat_lt 256 (length xs) then Some TooMany else limit_cause spent

abbrev pub hinders_thread : StepRequest → Thread → Option BuildFault
hinders_thread r e =
    first_of
    (semantics_cause (answer_of (step_walk r e))
    ∷ signature_cause r.signers r.offered
    ∷ authority_cause e.shown.published.currency r.signers r.offered r.inputs
    ∷ funds_cause (deposits r.inputs) r.offered
    ∷ step_limit_cause r.inputs (step_spent r e)
    ∷ repeat_cause (own_output e ∷ r.offered)
    ∷ [])

abbrev pub hinders_on : StepRequest → Option Thread → Option BuildFault
hinders_on r None = Some NoThread
hinders_on r (Some e) = hinders_thread r e

abbrev pub layout_thread : StepRequest → Thread → Tx
layout_thread r e = record {
  inputs = by_step r.inputs (own_output e) ∷ map by_key (step_front r e);
  outputs = step_outputs r e ++ paid_to r.change (rest (step_spent r e) (step_outputs r e));
  interval = r.interval;
  signers = r.signers;
  datums = e.datum ∷ next_data_of e (step_walk r e) (answer_of (step_walk r e));
}

abbrev pub layout_on : StepRequest → Option Thread → Tx
layout_on r None = record { inputs = []; outputs = []; interval = r.interval; signers = r.signers; datums = [] }
layout_on r (Some e) = layout_thread r e

-- ---- one part

first_alone : {A : Type 0} (o : Option A) → first_of (o ∷ []) ≡ o
first_alone None = refl
first_alone (Some a) = refl

or_nothing : (b : Bool) → (b || false) ≡ b
or_nothing true = refl
or_nothing false = refl

module _ (look : Look) (r : StepRequest) where
  abbrev pub many : StepsRequest
  many = one_part look r

  module _ (e : Thread) where
    abbrev pub alone : List Stepped
    alone = stepped r e ∷ []

    -- where its look shows a thread, that is the one part's
    pub threads_alone : look_thread look ≡ Some e → threads_of many.parts ≡ Some alone
    threads_alone shown = ap (λ z. agreeing (and_stepped z r.inputs (Some []))) shown

    same_front : parts_front many alone ≡ step_front r e
    same_front = λ k. front (append-nil (roles_of e.shown.published.currency r.inputs) k) (append-nil (deposits r.inputs) k) r.offered

    -- and what is spent is the thread's output and its front
    pub spent_alone : parts_spent many alone ≡ step_spent r e
    spent_alone = λ k. own_output e ∷ same_front k

    same_limit : parts_limit_cause alone (own_output e ∷ parts_front many alone) ≡ step_limit_cause r.inputs (step_spent r e)
    same_limit = λ k. if or_nothing (nat_lt 256 (length r.inputs)) k then Some TooMany else limit_cause (own_output e ∷ same_front k)

    same_outputs : step_outputs r e ++ [] ≡ step_outputs r e
    same_outputs = append-nil (step_outputs r e)

    hinders : hinders_threads many alone ≡ hinders_thread r e
    hinders = λ k.
        first_of
        (first_alone (semantics_cause (answer_of (step_walk r e))) k
        ∷ signature_cause r.signers r.offered
        ∷ first_alone (authority_cause e.shown.published.currency r.signers r.offered r.inputs) k
        ∷ funds_cause (append-nil (deposits r.inputs) k) r.offered
        ∷ same_limit k
        ∷ repeat_cause (own_output e ∷ r.offered)
        ∷ [])

    layout : layout_threads many alone ≡ layout_thread r e
    layout = λ k. record {
      inputs = by_step r.inputs (own_output e) ∷ map by_key (same_front k);
      outputs = same_outputs k ++ paid_to r.change (rest (own_output e ∷ same_front k) (same_outputs k));
      interval = r.interval;
      signers = r.signers;
      datums = e.datum ∷ append-nil (next_data_of e (step_walk r e) (answer_of (step_walk r e))) k;
    }

  by_thread : (z : Option Thread) → (hinders_parts many (agreeing (and_stepped z r.inputs (Some []))) ≡ hinders_on r z) × (layout_parts many (agreeing (and_stepped z r.inputs (Some []))) ≡ layout_on r z)
  by_thread None = (refl, refl)
  by_thread (Some e) = (hinders e, layout e)

  -- A STEP IS TAKEN APART
  pub hinders_step_on : hinders_step look r ≡ hinders_on r (look_thread look)
  hinders_step_on = (by_thread (look_thread look)).0

  pub layout_step_on : layout_step look r ≡ layout_on r (look_thread look)
  layout_step_on = (by_thread (look_thread look)).1
