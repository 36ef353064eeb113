-- From parts of a line to its answer.
use Rattle.std.proofs.Common.{◌≡◌, ℕ, List, [], Bool, true, false, Some, None, Result, Ok, Err, codes, refl, sym, subst}
use Rattle.std.specs.declared.option.Option.{Option}
use Rattle.contract.specs.declared.tree.Contract.{Contract}
use Rattle.contract.specs.Tree.{contract_tree}
use Rattle.request_answers.specs.MarloweTrace.ContractJson.PartAt.{part_at}
use Rattle.serde_json.specs.Data.{Data}
use Rattle.json_tree.specs.View.{read_within}
use Rattle.json_tree.specs.declared.read.Refusal.{Refusal as Unread}
use Rattle.json_tree.specs.declared.read.Refusal.TheVariants as unread
use Rattle.request_answers.specs.MarloweTrace.JsonReadContracts.ReadsContract.{contract}
use Rattle.request_answers.specs.MarloweTrace.JsonWriteContracts.WrittenContract.{contract_fits}
use Rattle.request_answers.specs.MarloweTrace.MarloweRun.declared.readable.Readable.{Readable}
use Rattle.request_answers.specs.RequestReasons.Definitions.declared.definition.Definition.{Definition}
use Rattle.request_answers.specs.RequestReasons.Definitions.Named.{has_room, put_named}
use Rattle.request_answers.specs.RequestReasons.Requests.Ids.{SpellsId, id_of}
use Rattle.request_answers.specs.RequestReasons.Requests.Requests.{Asked, IsMember, is_object, request_of}
use Rattle.request_answers.specs.RequestReasons.Requests.declared.kind.Kind.{Kind}
use Rattle.request_answers.proofs.FromRequestParts.FitLaws.{fit_member}
use Rattle.request_answers.specs.RequestReasons.RequestParts.Answered.{ok_answer, reasoned_answer, refused_answer}
use Rattle.request_answers.specs.RequestReasons.RequestParts.PartsSupport.{AllFit}
use Rattle.request_answers.specs.RequestReasons.RequestParts.declared.refusal.LineFault.TheVariants as lines
use Rattle.request_answers.specs.RequestReasons.RequestParts.declared.refusal.Refusal.{Refusal}
use Rattle.request_answers.specs.RequestReasons.RequestParts.declared.refusal.Refusal.TheVariants as refusals
use Rattle.serve.specs.Answers.{AnswersAsked, IsAnswerOf, IsLineAnswer, TellsRequest, TellsValue, answer_by}
use Rattle.request_answers.specs.Playing.{Plays}
use Rattle.request_answers.specs.Definition.{named_so}
use Rattle.serve.specs.Defining.{Changes, ChangesIfRoom, Forgets, Puts, TakesAway}
use Rattle.request_answers.specs.Reasoned.{MayTell, RefusedSo, WithReason}
use Rattle.request_answers.proofs.ReasonLaws.{with_none, with_same}
use Rattle.request_answers.specs.MarloweTrace.JsonReadNames.declared.fault.JsonFault.TheVariants as json
use Rattle.request_answers.specs.RequestReasons.RequestParts.declared.refusal.Part.TheVariants as parts
use Rattle.request_answers.specs.RequestReasons.Requests.declared.kind.Kind.TheVariants as kinds

pub fit_request : (whole body : Data) → AllFit whole → IsMember whole body → AllFit body
fit_request whole body h (key, is) = fit_member whole body key h (sym is)

pub fit_line : ((n : ℕ) (text : List ℕ) (whole part : Data) (names : List (List ℕ)) (c : Contract) → read_within n text ≡ Some whole → part_at names whole ≡ Some part → contract part ≡ Ok c → contract_fits (contract_tree c) ≡ true)
    → (n : ℕ) (text : List ℕ) (whole : Data) → read_within n text ≡ Some whole → AllFit whole
fit_line law n text whole is = λ names part c at read. law n text whole part names c is at read

-- a line with a value
pub answers_value : (plays : Plays) (r : Readable) (defs after : List Definition) (number bytes : ℕ) (line : Result Data Unread) (d : Data) (text : List ℕ) → line ≡ Ok d
    → IsAnswerOf plays r defs number bytes d text after → answer_by plays r defs number bytes line text after
answers_value plays r defs after number bytes line d text is h = subst (λ l. answer_by plays r defs number bytes l text after) (sym is) h

pub no_line : (refusal : Refusal) (id text : List ℕ) → SpellsId (id_of None) id → text ≡ refused_answer id refusal → IsLineAnswer refusal text
no_line refusal id text spells is = record { id = id; spells = spells; is = is }

-- .. and without one
pub answers_none : (plays : Plays) (r : Readable) (defs after : List Definition) (number bytes : ℕ) (line : Result Data Unread) (text : List ℕ) → line ≡ Err unread.NotJson
    → IsLineAnswer (refusals.Line lines.NotJson number) text → after ≡ defs → answer_by plays r defs number bytes line text after
answers_none plays r defs after number bytes line text is h same = subst (λ l. answer_by plays r defs number bytes l text after) (sym is) (h, same)

-- ---- a value

value_known : (plays : Plays) (r : Readable) (defs after : List Definition) (number bytes : ℕ) (d : Data) (b : Bool) (id text : List ℕ) → SpellsId (id_of (Some d)) id → is_object d ≡ b
    → TellsValue plays r defs number bytes d b id text after → IsAnswerOf plays r defs number bytes d text after
value_known plays r defs after number bytes d b id text spells is h = record { id = id; spells = spells; tells = subst (λ (o : Bool). TellsValue plays r defs number bytes d o id text after) (sym is) h }

asked_known : (plays : Plays) (r : Readable) (defs after : List Definition) (number bytes : ℕ) (d : Data) (asked : Option Asked) (id text : List ℕ) → SpellsId (id_of (Some d)) id → is_object d ≡ true → asked ≡ request_of d
    → TellsRequest plays r defs number bytes asked id text after → IsAnswerOf plays r defs number bytes d text after
asked_known plays r defs after number bytes d asked id text spells is asks h = value_known plays r defs after number bytes d true id text spells is (subst (λ (a : Option Asked). TellsRequest plays r defs number bytes a id text after) asks h)

pub no_object : (plays : Plays) (r : Readable) (defs after : List Definition) (number bytes : ℕ) (d : Data) (id text : List ℕ) → SpellsId (id_of (Some d)) id → is_object d ≡ false → after ≡ defs
    → text ≡ refused_answer id (refusals.Line lines.NoObject number) → IsAnswerOf plays r defs number bytes d text after
no_object plays r defs after number bytes d id text spells is same says = value_known plays r defs after number bytes d false id text spells is (says, same)

pub no_request : (plays : Plays) (r : Readable) (defs after : List Definition) (number bytes : ℕ) (d : Data) (id text : List ℕ) → SpellsId (id_of (Some d)) id → is_object d ≡ true → None ≡ request_of d → after ≡ defs
    → text ≡ refused_answer id (refusals.Line lines.NoRequest number) → IsAnswerOf plays r defs number bytes d text after
no_request plays r defs after number bytes d id text spells is asks same says = asked_known plays r defs after number bytes d None id text spells is asks (says, same)

pub a_request : (plays : Plays) (r : Readable) (defs after : List Definition) (number bytes : ℕ) (d body : Data) (kind : Kind) (id text : List ℕ) → SpellsId (id_of (Some d)) id → is_object d ≡ true → Some (kind, body) ≡ request_of d
    → AnswersAsked plays r defs bytes kind body id text after → IsAnswerOf plays r defs number bytes d text after
a_request plays r defs after number bytes d body kind id text spells is asks h = asked_known plays r defs after number bytes d (Some (kind, body)) id text spells is asks h

pub ruleset line_steps = (fit_line, answers_value, no_line, answers_none)

pub ruleset value_steps = (fit_request, no_object, no_request, a_request)

-- ---- a contract gets a name

module _ (r : Readable) (body : Data) (bytes : ℕ) (defs after : List Definition) (id text : List ℕ) (told : Result (List ℕ × Contract) Refusal) where
  abbrev Defines : Type 0
  Defines = WithReason (MayTell r defs kinds.Define body) (Changes bytes defs id told text after)

  told_known : (d : Definition) → told ≡ Ok (named_so d) → d.bytes ≡ bytes → Puts d defs id text after → Defines
  told_known d is counts h =
      with_none r defs kinds.Define body (Changes bytes defs id told text after) (subst (λ t. Changes bytes defs id t text after []) (sym is) (d, (refl, counts), h))

  -- there is room
  pub defines : (d : Definition) → told ≡ Ok (named_so d) → d.bytes ≡ bytes → has_room (put_named d defs) ≡ true → text ≡ ok_answer id (codes "true") → after ≡ put_named d defs → Defines
  defines d is counts room says new = told_known d is counts (subst (λ (b : Bool). ChangesIfRoom b (put_named d defs) defs id text after) (sym room) (says, new))

  -- .. or none
  pub defines_none : (d : Definition) → told ≡ Ok (named_so d) → d.bytes ≡ bytes → has_room (put_named d defs) ≡ false → text ≡ refused_answer id refusals.Full → after ≡ defs → Defines
  defines_none d is counts room says same = told_known d is counts (subst (λ (b : Bool). ChangesIfRoom b (put_named d defs) defs id text after) (sym room) (says, same))

  -- .. or no contract with a name stands there
  pub defines_nothing : (refusal : Refusal) → told ≡ Err refusal → RefusedSo r defs kinds.Define body id refusal text → after ≡ defs → Defines
  unfolding RefusedSo
  defines_nothing refusal is h same =
      with_same (MayTell r defs kinds.Define body) (λ reason. text ≡ reasoned_answer id refusal reason) (Changes bytes defs id told text after)
      (λ reason says. subst (λ t. Changes bytes defs id t text after reason) (sym is) (says, same)) h

pub ruleset define_steps = (defines, defines_none, defines_nothing)

-- ---- a name is taken away

module _ (r : Readable) (body : Data) (defs after : List Definition) (id text : List ℕ) (name : Option (List ℕ)) where
  abbrev Forgotten : Type 0
  Forgotten = WithReason (MayTell r defs kinds.Forget body) (Forgets defs id name text after)

  pub forgets : (word : List ℕ) → Some word ≡ name → TakesAway defs id word text after → Forgotten
  forgets word is takes = with_none r defs kinds.Forget body (Forgets defs id name text after) (subst (λ n. Forgets defs id n text after []) is takes)

  -- .. or it is none
  pub forgets_none : None ≡ name → RefusedSo r defs kinds.Forget body id (refusals.Part parts.Forget json.NoForm) text → after ≡ defs → Forgotten
  unfolding RefusedSo
  forgets_none is h same =
      with_same (MayTell r defs kinds.Forget body) (λ reason. text ≡ reasoned_answer id (refusals.Part parts.Forget json.NoForm) reason) (Forgets defs id name text after)
      (λ reason says. subst (λ n. Forgets defs id n text after reason) is (says, same)) h

pub ruleset forget_steps = (forgets, forgets_none)
