-- What is answered with a reason.
use Rattle.std.proofs.Common.{◌≡◌, ℕ, List, [], Result, Ok, Err, inl, inr, refl, sym, subst}
use Rattle.std.specs.declared.option.Option.{Option}
use Rattle.serde_json.specs.Data.{Data}
use Rattle.marlowe_trace.specs.MarloweRefusals.declared.trace_fault.TraceFault.{TraceFault}
use Rattle.marlowe_trace.specs.MarloweRun.declared.readable.Readable.{Readable}
use Rattle.request_reasons.specs.Definitions.declared.definition.Definition.{Definition}
use Rattle.request_reasons.specs.Requests.declared.kind.Kind.{Kind}
use Rattle.request_reasons.specs.Requests.declared.kind.Kind.TheVariants as kinds
use Rattle.request_reasons.specs.Reasons.{TellsReason}
use Rattle.request_reasons.specs.RequestParts.Answered.{answered, answered_trace, ok_answer, reasoned_answer, traced_answer}
use Rattle.request_reasons.specs.RequestParts.declared.refusal.Refusal.{Refusal}
use Rattle.request_answers.specs.Commands.{trace_seen}
use Rattle.request_answers.specs.Reasoned.{AnsweredSo, MayTell, OutcomesSo, RefusedSo, TracedSo, WithReason}
use Rattle.marlowe_trace.specs.declared.texts.Traced.{Traced}
use Rattle.request_answers.proofs.ReasonLaws.{with_none}

-- a reason that is found, or none
pub may_find : (r : Readable) (defs : List Definition) (kind : Kind) (body : Data) (reason : List ℕ) → TellsReason r defs kind body reason → MayTell r defs kind body reason
may_find r defs kind body reason tells = inr tells

pub may_miss : (r : Readable) (defs : List Definition) (kind : Kind) (body : Data) (reason : List ℕ) → reason ≡ [] → MayTell r defs kind body reason
may_miss r defs kind body reason is = inl is

pub ruleset may_steps = (may_find, may_miss)

module _ (r : Readable) (defs : List Definition) (kind : Kind) (body : Data) (id line : List ℕ) where
  pub refused_so : (refusal : Refusal) (reason : List ℕ) → MayTell r defs kind body reason → line ≡ reasoned_answer id refusal reason → RefusedSo r defs kind body id refusal line
  unfolding RefusedSo WithReason
  refused_so refusal reason may is = (reason, may, is)

  pub told_ok : (told : Result (List ℕ) Refusal) (text : List ℕ) → told ≡ Ok text → line ≡ ok_answer id text → AnsweredSo r defs kind body id told line
  unfolding AnsweredSo
  told_ok told text is says =
      subst (λ t. WithReason (MayTell r defs kind body) (λ reason. line ≡ answered id t reason)) (sym is) (with_none r defs kind body (λ reason. line ≡ answered id (Ok text) reason) says)

  pub told_refused : (told : Result (List ℕ) Refusal) (refusal : Refusal) → told ≡ Err refusal → RefusedSo r defs kind body id refusal line → AnsweredSo r defs kind body id told line
  unfolding RefusedSo AnsweredSo
  told_refused told refusal is h = subst (λ t. WithReason (MayTell r defs kind body) (λ reason. line ≡ answered id t reason)) (sym is) h

module _ (r : Readable) (defs : List Definition) (body : Data) (id line : List ℕ) where
  pub outcomes_so : (lines : List ℕ) (fault : Option TraceFault) (reason : List ℕ) → MayTell r defs kinds.Trace body reason → line ≡ traced_answer id lines fault reason → OutcomesSo r defs body id lines fault line
  unfolding OutcomesSo WithReason
  outcomes_so lines fault reason may is = (reason, may, is)

  pub traces_so : (told : Result (List ℕ × Option TraceFault) Refusal) (traced : Traced) (lines : List ℕ) → told ≡ Ok (trace_seen traced) → lines ≡ traced.text.items → OutcomesSo r defs body id lines traced.refused line
      → TracedSo r defs body id told line
  unfolding OutcomesSo TracedSo
  traces_so told traced lines is same h =
      subst (λ t. WithReason (MayTell r defs kinds.Trace body) (λ reason. line ≡ answered_trace id t reason)) (sym is)
      (subst (λ l. WithReason (MayTell r defs kinds.Trace body) (λ reason. line ≡ traced_answer id l traced.refused reason)) same h)

  pub trace_refused : (told : Result (List ℕ × Option TraceFault) Refusal) (refusal : Refusal) → told ≡ Err refusal → RefusedSo r defs kinds.Trace body id refusal line → TracedSo r defs body id told line
  unfolding RefusedSo TracedSo
  trace_refused told refusal is h = subst (λ t. WithReason (MayTell r defs kinds.Trace body) (λ reason. line ≡ answered_trace id t reason)) (sym is) h

pub ruleset reason_steps = (refused_so, told_ok, told_refused, outcomes_so)

pub ruleset trace_steps = (traces_so, trace_refused)
