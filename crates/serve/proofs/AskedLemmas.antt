-- What is answered, by what is asked.
use Rattle.std.proofs.Common.{◌≡◌, ℕ, List}
use Rattle.serde_json.specs.Data.{Data}
use Rattle.serde_json.specs.Find.{as_str}
use Rattle.request_answers.specs.MarloweTrace.MarloweRun.declared.readable.Readable.{Readable}
use Rattle.request_answers.specs.RequestReasons.Definitions.declared.definition.Definition.{Definition}
use Rattle.request_answers.specs.RequestReasons.Requests.declared.kind.Kind.{Kind}
use Rattle.request_answers.specs.RequestReasons.Requests.declared.kind.Kind.TheVariants as kinds
use Rattle.request_answers.specs.RequestReasons.RequestParts.Answered.{answered, answered_trace}
use Rattle.request_answers.specs.Asking.{TellsAnalysis, TellsNext}
use Rattle.request_answers.specs.Commands.{run_told, table_told, trace_told}
use Rattle.request_answers.specs.Encoding.{bytes_told}
use Rattle.request_answers.specs.Playing.{AnswersPlay, Plays}
use Rattle.request_answers.specs.Reading.{read_told}
use Rattle.request_answers.specs.Reasoned.{AnsweredSo, AnswersBy, MayTell, TracedSo, WithReason}
use Rattle.request_answers.proofs.ReasonLaws.{with_none, with_same}
use Rattle.serve.specs.Answers.{AnswersAsked, TellsAsked}
use Rattle.request_answers.specs.Definition.{definition_told}
use Rattle.serve.specs.Defining.{Changes, Forgets}

module _ (plays : Plays) (r : Readable) (defs after : List Definition) (bytes : ℕ) (body : Data) (id text : List ℕ) where
  abbrev Asked : Kind → Type 0
  Asked kind = AnswersAsked plays r defs bytes kind body id text after

  abbrev May : Kind → List ℕ → Type 0
  May kind = MayTell r defs kind body

  stays : (kind : Kind) (Holds : List ℕ → Type 0) → ((reason : List ℕ) → Holds reason → TellsAsked plays r defs bytes kind body id text after reason) → WithReason (May kind) Holds → Asked kind
  unfolding AnswersAsked
  stays kind Holds more h = with_same (May kind) Holds (TellsAsked plays r defs bytes kind body id text after) more h

  pub runs : AnsweredSo r defs kinds.Run body id (run_told r.text_numbers defs body) text → after ≡ defs → Asked kinds.Run
  unfolding AnsweredSo
  runs h same = stays kinds.Run (λ reason. text ≡ answered id (run_told r.text_numbers defs body) reason) (λ reason is. (is, same)) h

  pub traces : TracedSo r defs body id (trace_told r.text_numbers defs body) text → after ≡ defs → Asked kinds.Trace
  unfolding TracedSo
  traces h same = stays kinds.Trace (λ reason. text ≡ answered_trace id (trace_told r.text_numbers defs body) reason) (λ reason is. (is, same)) h

  pub nexts : WithReason (May kinds.Next) (AnswersBy (TellsNext r defs body) id text) → after ≡ defs → Asked kinds.Next
  nexts h same = stays kinds.Next (AnswersBy (TellsNext r defs body) id text) (λ reason is. (is, same)) h

  pub tables : AnsweredSo r defs kinds.Table body id (table_told defs body) text → after ≡ defs → Asked kinds.Table
  unfolding AnsweredSo
  tables h same = stays kinds.Table (λ reason. text ≡ answered id (table_told defs body) reason) (λ reason is. (is, same)) h

  pub analyses : WithReason (May kinds.Analyse) (AnswersBy (TellsAnalysis r.text_numbers defs body) id text) → after ≡ defs → Asked kinds.Analyse
  analyses h same = stays kinds.Analyse (AnswersBy (TellsAnalysis r.text_numbers defs body) id text) (λ reason is. (is, same)) h

  pub reads : AnsweredSo r defs kinds.Read body id (read_told r.text_numbers defs body) text → after ≡ defs → Asked kinds.Read
  unfolding AnsweredSo
  reads h same = stays kinds.Read (λ reason. text ≡ answered id (read_told r.text_numbers defs body) reason) (λ reason is. (is, same)) h

  pub encodes : AnsweredSo r defs kinds.Bytes body id (bytes_told r.text_numbers defs body) text → after ≡ defs → Asked kinds.Bytes
  unfolding AnsweredSo
  encodes h same = stays kinds.Bytes (λ reason. text ≡ answered id (bytes_told r.text_numbers defs body) reason) (λ reason is. (is, same)) h

  pub defines : WithReason (May kinds.Define) (Changes bytes defs id (definition_told body) text after) → Asked kinds.Define
  defines h = stays kinds.Define (Changes bytes defs id (definition_told body) text after) (λ reason is. is) h

  pub forgets : WithReason (May kinds.Forget) (Forgets defs id (as_str body) text after) → Asked kinds.Forget
  forgets h = stays kinds.Forget (Forgets defs id (as_str body) text after) (λ reason is. is) h

  pub plays_on : AnswersPlay (plays body) id text → after ≡ defs → Asked kinds.Play
  unfolding AnswersAsked
  plays_on h same = with_none r defs kinds.Play body (TellsAsked plays r defs bytes kinds.Play body id text after) (h, same)

pub ruleset asked_steps = (runs, traces, nexts, tables, analyses, reads, encodes, defines, forgets, plays_on)
