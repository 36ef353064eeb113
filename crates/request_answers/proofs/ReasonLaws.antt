-- What is answered with a reason, for the crates above too.
use Rattle.std.proofs.Common.{◌≡◌, ℕ, List, [], inl, refl}
use Rattle.serde_json.specs.Data.{Data}
use Rattle.marlowe_trace.specs.MarloweRun.declared.readable.Readable.{Readable}
use Rattle.request_reasons.specs.Definitions.declared.definition.Definition.{Definition}
use Rattle.request_reasons.specs.Requests.declared.kind.Kind.{Kind}
use Rattle.request_answers.specs.Reasoned.{MayTell, WithReason}

-- where nothing is refused no reason is looked for
pub with_none : (r : Readable) (defs : List Definition) (kind : Kind) (body : Data) (Holds : List ℕ → Type 0) → Holds [] → WithReason (MayTell r defs kind body) Holds
unfolding WithReason
with_none r defs kind body Holds h = ([], inl refl, h)

-- what holds with a reason, with the same one
pub with_same : (May Holds Also : List ℕ → Type 0) → ((reason : List ℕ) → Holds reason → Also reason) → WithReason May Holds → WithReason May Also
unfolding WithReason
with_same May Holds Also more h = (h.0, h.1, more h.0 h.2)
