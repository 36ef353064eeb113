-- What a line is answered, where contracts have names.
use Rattle.std.specs.Prelude.{◌≡◌, ℕ, Bool, true, false, List, length, Option, Some, None, Result, Ok, Err}
use Rattle.serde_json.specs.Data.{Data}
use Rattle.json_tree.specs.declared.read.Refusal.{Refusal as Unread}
use Rattle.request_answers.specs.MarloweTrace.MarloweRun.declared.readable.Readable.{Readable}
use Rattle.request_answers.specs.RequestReasons.Definitions.declared.definition.Definition.{Definition}
use Rattle.request_answers.specs.RequestReasons.Requests.Ids.{SpellsId, id_of}
use Rattle.request_answers.specs.RequestReasons.Requests.Requests.{Asked, is_object, line_json, request_of}
use Rattle.request_answers.specs.RequestReasons.Requests.declared.kind.Kind.{Kind}
use Rattle.request_answers.specs.RequestReasons.Requests.declared.kind.Kind.TheVariants as kinds
use Rattle.serde_json.specs.Find.{as_str}
use Rattle.request_answers.specs.RequestReasons.RequestParts.Answered.{answered, answered_trace, refused_answer}
use Rattle.request_answers.specs.Commands.{run_told, table_told, trace_told}
use Rattle.request_answers.specs.Asking.{TellsAnalysis, TellsNext}
use Rattle.request_answers.specs.Definition.{definition_told}
use Rattle.serve.specs.Defining.{Changes, Forgets}
use Rattle.request_answers.specs.Encoding.{bytes_told}
use Rattle.request_answers.specs.Playing.{AnswersPlay, Plays, no_play}
use Rattle.request_answers.specs.Reading.{read_told}
use Rattle.request_answers.specs.Reasoned.{AnswersBy, MayTell, WithReason}
use Rattle.request_answers.specs.RequestReasons.RequestParts.declared.refusal.LineFault.TheVariants as lines
use Rattle.request_answers.specs.RequestReasons.RequestParts.declared.refusal.Refusal.{Refusal}
use Rattle.request_answers.specs.RequestReasons.RequestParts.declared.refusal.Refusal.TheVariants as refusals

-- the names stay
abbrev pub Stays : List Definition → List Definition → Type 0 → Type 0
Stays defs after tells = tells × (after ≡ defs)

-- what a request is answered under an id, where plays are told so, and the names that stand behind it; where it is refused, with a reason
abbrev pub TellsAsked : Plays → Readable → List Definition → ℕ → Kind → Data → List ℕ → List ℕ → List Definition → List ℕ → Type 0
TellsAsked plays r defs bytes kinds.Run body id text after reason = Stays defs after (text ≡ answered id (run_told r.text_numbers defs body) reason)
TellsAsked plays r defs bytes kinds.Trace body id text after reason = Stays defs after (text ≡ answered_trace id (trace_told r.text_numbers defs body) reason)
TellsAsked plays r defs bytes kinds.Next body id text after reason = Stays defs after (AnswersBy (TellsNext r defs body) id text reason)
TellsAsked plays r defs bytes kinds.Table body id text after reason = Stays defs after (text ≡ answered id (table_told defs body) reason)
TellsAsked plays r defs bytes kinds.Analyse body id text after reason = Stays defs after (AnswersBy (TellsAnalysis r.text_numbers defs body) id text reason)
TellsAsked plays r defs bytes kinds.Read body id text after reason = Stays defs after (text ≡ answered id (read_told r.text_numbers defs body) reason)
TellsAsked plays r defs bytes kinds.Bytes body id text after reason = Stays defs after (text ≡ answered id (bytes_told r.text_numbers defs body) reason)
TellsAsked plays r defs bytes kinds.Define body id text after reason = Changes bytes defs id (definition_told body) text after reason
TellsAsked plays r defs bytes kinds.Forget body id text after reason = Forgets defs id (as_str body) text after reason
TellsAsked plays r defs bytes kinds.Play body id text after reason = Stays defs after (AnswersPlay (plays body) id text)

-- .. with one that may be told of it
unfoldable pub AnswersAsked : Plays → Readable → List Definition → ℕ → Kind → Data → List ℕ → List ℕ → List Definition → Type 0
AnswersAsked plays r defs bytes kind body id text after = WithReason (MayTell r defs kind body) (TellsAsked plays r defs bytes kind body id text after)

-- .. where something is asked
abbrev pub TellsRequest : Plays → Readable → List Definition → ℕ → ℕ → Option Asked → List ℕ → List ℕ → List Definition → Type 0
TellsRequest plays r defs number bytes (Some (kind, body)) id text after = AnswersAsked plays r defs bytes kind body id text after
TellsRequest plays r defs number bytes None id text after = Stays defs after (text ≡ refused_answer id (refusals.Line lines.NoRequest number))

-- .. of a value, which may be no object
abbrev pub TellsValue : Plays → Readable → List Definition → ℕ → ℕ → Data → Bool → List ℕ → List ℕ → List Definition → Type 0
TellsValue plays r defs number bytes d true id text after = TellsRequest plays r defs number bytes (request_of d) id text after
TellsValue plays r defs number bytes d false id text after = Stays defs after (text ≡ refused_answer id (refusals.Line lines.NoObject number))

-- a value on a line of so many bytes is answered under its id
pub record IsAnswerOf (plays : Plays) (r : Readable) (defs : List Definition) (number bytes : ℕ) (d : Data) (text : List ℕ) (after : List Definition) : Type 0 where
  pub id : List ℕ
  pub spells : SpellsId (id_of (Some d)) id
  pub tells : TellsValue plays r defs number bytes d (is_object d) id text after

-- a line without one, for this reason
pub record IsLineAnswer (refusal : Refusal) (text : List ℕ) : Type 0 where
  pub id : List ℕ
  pub spells : SpellsId (id_of None) id
  pub is : text ≡ refused_answer id refusal

abbrev pub answer_by : Plays → Readable → List Definition → ℕ → ℕ → Result Data Unread → List ℕ → List Definition → Type 0
answer_by plays r defs number bytes (Ok d) text after = IsAnswerOf plays r defs number bytes d text after
answer_by plays r defs number bytes (Err unread) text after = Stays defs after (IsLineAnswer (refusals.Line lines.NotJson number) text)

-- the answer to a line of this number, where plays are told so, and the names that stand behind it
abbrev pub IsAnswerWith : Plays → Readable → List Definition → ℕ → List ℕ → List ℕ → List Definition → Type 0
IsAnswerWith plays r defs number line text after = answer_by plays r defs number (length line) (line_json r.depth line) text after

-- .. where nobody plays
abbrev pub IsAnswer : Readable → List Definition → ℕ → List ℕ → List ℕ → List Definition → Type 0
IsAnswer r defs number line text after = IsAnswerWith no_play r defs number line text after

-- the answer to a line that is too long
abbrev pub IsTooLongAnswer : ℕ → List ℕ → Type 0
IsTooLongAnswer number text = IsLineAnswer (refusals.Line lines.TooLong number) text
