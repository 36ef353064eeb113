-- Answers, and what more they tell of a request that is refused.
use Rattle.std.specs.Prelude.{◌≡◌, ◌⊎◌, ℕ, List, [], Result}
use Rattle.std.specs.declared.option.Option.{Option}
use Rattle.serde_json.specs.Data.{Data}
use Rattle.marlowe_trace.specs.MarloweRefusals.declared.trace_fault.TraceFault.{TraceFault}
use Rattle.marlowe_trace.specs.MarloweRun.declared.readable.Readable.{Readable}
use Rattle.request_reasons.specs.Definitions.declared.definition.Definition.{Definition}
use Rattle.request_reasons.specs.Requests.declared.kind.Kind.{Kind}
use Rattle.request_reasons.specs.Requests.declared.kind.Kind.TheVariants as kinds
use Rattle.request_reasons.specs.Reasons.{TellsReason}
use Rattle.request_reasons.specs.RequestParts.Answered.{answered, answered_trace, reasoned_answer, traced_answer}
use Rattle.request_reasons.specs.RequestParts.declared.refusal.Refusal.{Refusal}

-- why it is refused; nothing where there is no memory to look for it
abbrev pub MayTell : Readable → List Definition → Kind → Data → List ℕ → Type 0
MayTell r defs kind body reason = (reason ≡ []) ⊎ TellsReason r defs kind body reason

-- what holds with a reason that may be told
unfoldable pub WithReason : (List ℕ → Type 0) → (List ℕ → Type 0) → Type 0
WithReason May Holds = (reason : List ℕ) × May reason × Holds reason

-- an answer under an id to what is told so
unfoldable pub AnswersBy : (Result (List ℕ) Refusal → Type 0) → List ℕ → List ℕ → List ℕ → Type 0
AnswersBy Tells id text reason = (told : Result (List ℕ) Refusal) × Tells told × (text ≡ answered id told reason)

-- a refusal
unfoldable pub RefusedSo : Readable → List Definition → Kind → Data → List ℕ → Refusal → List ℕ → Type 0
RefusedSo r defs kind body id refusal line = WithReason (MayTell r defs kind body) (λ reason. line ≡ reasoned_answer id refusal reason)

-- what is told, or a refusal
unfoldable pub AnsweredSo : Readable → List Definition → Kind → Data → List ℕ → Result (List ℕ) Refusal → List ℕ → Type 0
AnsweredSo r defs kind body id told line = WithReason (MayTell r defs kind body) (λ reason. line ≡ answered id told reason)

-- outcomes, and a refusal that may stand behind them
unfoldable pub OutcomesSo : Readable → List Definition → Data → List ℕ → List ℕ → Option TraceFault → List ℕ → Type 0
OutcomesSo r defs body id lines fault line = WithReason (MayTell r defs kinds.Trace body) (λ reason. line ≡ traced_answer id lines fault reason)

-- .. or a refusal alone
unfoldable pub TracedSo : Readable → List Definition → Data → List ℕ → Result (List ℕ × Option TraceFault) Refusal → List ℕ → Type 0
TracedSo r defs body id told line = WithReason (MayTell r defs kinds.Trace body) (λ reason. line ≡ answered_trace id told reason)
