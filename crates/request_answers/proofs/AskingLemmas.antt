-- What is told of what is asked, step by step.
use Rattle.std.proofs.Common.{◌≡◌, ◌≢◌, ℕ, List, Bool, Option, Result, Ok, Err, refl, sym, ap, ◌∙◌, subst}
use Rattle.std.specs.declared.vec.Vec.{Vec}
use Rattle.std.specs.declared.alloc.Global.{Global}
use Rattle.contract.specs.Names.declared.party.Party.{Party}
use Rattle.contract.specs.Tree.{ContractTree}
use Rattle.contract.specs.States.States.{StateMaps}
use Rattle.marlowe_trace.specs.MarloweRefusals.declared.fault.RunFault.TheVariants as run
use Rattle.marlowe_trace.specs.MarloweRefusals.declared.trace_fault.TraceFault.{TraceFault}
use Rattle.marlowe_trace.specs.MarloweRefusals.declared.trace_fault.TraceFault.TheVariants as trace
use Rattle.request_reasons.specs.MarloweNext.declared.asked.Asked.{Asked}
use Rattle.request_reasons.specs.MarloweNext.Answer.{IsAnswer}
use Rattle.request_reasons.specs.MarloweNext.Question.{Reached, answered}
use Rattle.marlowe_analyse.specs.declared.analysed.Telling.{Telling}
use Rattle.marlowe_analyse.specs.Keeping.{TellsFor}
use Rattle.request_reasons.specs.RequestParts.Answered.{ok_answer, reasoned_answer, without_feed}
use Rattle.request_reasons.specs.RequestParts.Refusals.{trace_refused}
use Rattle.request_reasons.specs.RequestParts.declared.refusal.Refusal.{Refusal}
use Rattle.request_reasons.specs.RequestParts.declared.refusal.Refusal.TheVariants as refusals
use Rattle.request_answers.specs.Reasoned.{AnswersBy, MayTell, RefusedSo, WithReason}
use Rattle.request_answers.proofs.ReasonLaws.{with_none, with_same}
use Rattle.serde_json.specs.Data.{Data}
use Rattle.marlowe_trace.specs.MarloweRun.declared.readable.Readable.{Readable}
use Rattle.request_reasons.specs.Definitions.declared.definition.Definition.{Definition}
use Rattle.request_reasons.specs.Requests.declared.kind.Kind.{Kind}
use Rattle.request_answers.specs.Asking.{AnalysisPrints, NextPrints, Then}
use Rattle.request_answers.specs.AskingSupport.{Told}
use Rattle.request_answers.specs.Playing.{AnswersPlay, PlayTold, answer_seen, played_answer}
use Rattle.request_answers.specs.declared.player.PlayAnswer.{PlayAnswer}

abbrev Text : Type 0
Text = Result (Vec ℕ Global) Refusal

-- ---- a part of the request

-- it is read
pub tells_on : {X : Type 0} (Tells : X → Result (List ℕ) Refusal → Type 0) (part : Result X Refusal) (x y : X) (made result : Text) → part ≡ Ok x → y ≡ x → result ≡ made → Told (Tells y) made → Told (Then part Tells) result
unfolding Then
tells_on {X = X} Tells part x y made result is same gives h =
    let here : Told (Tells x) result = subst (λ (z : X). Told (Tells z) result) same (subst (λ (t : Text). Told (Tells y) t) (sym gives) h) in
    subst (λ (p : Result X Refusal). Told (Then p Tells) result) (sym is) here

-- it isn't
pub tells_why : {X : Type 0} (Tells : X → Result (List ℕ) Refusal → Type 0) (part : Result X Refusal) (refusal : Refusal) → (refusal ≢ refusals.Memory → part ≡ Err refusal) → Told (Then part Tells) (Err refusal)
unfolding Told Then
tells_why {X = X} Tells part refusal is = λ n. subst (λ (p : Result X Refusal). Then p Tells (Err refusal)) (sym (is n)) refl

-- ---- what is printed

pub next_prints : (q : Asked) (reached : Result Reached TraceFault) (line : List ℕ) (text : Vec ℕ Global) → IsAnswer q reached line → text.items ≡ without_feed line → Told (NextPrints q reached) (Ok text)
unfolding Told
next_prints q reached line text answers is = (line, answers, is)

pub next_refused : (q : Asked) (reached : Result Reached TraceFault) (fault : TraceFault) (refusal : Refusal) → (fault ≢ trace.Run run.Memory → answered q reached ≡ Err fault) → refusal ≡ trace_refused fault
    → Told (NextPrints q reached) (Err refusal)
unfolding Told
next_refused q reached fault refusal why is = λ n. (fault, why (λ e. n (is ∙ ap trace_refused e)), is)

pub analysis_prints : (telling : Telling) (party : Option Party) (given clear unreached : Bool) (c : ContractTree) (s : StateMaps) (line : List ℕ) (text : Vec ℕ Global) → TellsFor telling party given s c clear unreached line → text.items ≡ without_feed line
    → Told (AnalysisPrints telling given c s party) (Ok text)
unfolding Told
analysis_prints telling party given clear unreached c s line text tells is = (clear, unreached, line, tells, is)

pub prints_so : (telling asked : Telling) (given is_given : Bool) (c : ContractTree) (s : StateMaps) (party : Option Party) (result : Text) → telling ≡ asked → given ≡ is_given → Told (AnalysisPrints telling given c s party) result → Told (AnalysisPrints asked is_given c s party) result
prints_so telling asked given is_given c s party result is so h = subst (λ (g : Bool). Told (AnalysisPrints asked g c s party) result) so (subst (λ (t : Telling). Told (AnalysisPrints t given c s party) result) is h)

pub analysis_memory : (telling : Telling) (given : Bool) (c : ContractTree) (s : StateMaps) (party : Option Party) → Told (AnalysisPrints telling given c s party) (Err refusals.Memory)
unfolding Told
analysis_memory telling given c s party = λ n. absurd (n refl)

-- ---- what is answered

module _ (r : Readable) (defs : List Definition) (kind : Kind) (body : Data) (Tells : Result (List ℕ) Refusal → Type 0) (id line : List ℕ) (told : Text) where
  pub answers_ok : (text : Vec ℕ Global) → Told Tells told → told ≡ Ok text → line ≡ ok_answer id text.items → WithReason (MayTell r defs kind body) (AnswersBy Tells id line)
  unfolding Told AnswersBy
  answers_ok text h is says = with_none r defs kind body (AnswersBy Tells id line) (Ok text.items, subst (λ (t : Text). Told Tells t) is h, says)

  pub answers_refused : (refusal : Refusal) → Told Tells told → told ≡ Err refusal → refusal ≢ refusals.Memory → RefusedSo r defs kind body id refusal line
      → WithReason (MayTell r defs kind body) (AnswersBy Tells id line)
  unfolding Told AnswersBy RefusedSo
  answers_refused refusal h is n says =
      with_same (MayTell r defs kind body) (λ reason. line ≡ reasoned_answer id refusal reason) (AnswersBy Tells id line)
      (λ reason same. (Err refusal, subst (λ (t : Text). Told Tells t) is h n, same)) says

-- a play is told so
pub plays_so : (Tells : PlayTold → Type 0) (id line : List ℕ) (answer : PlayAnswer) → Tells (answer_seen answer) → line ≡ played_answer id (answer_seen answer) → AnswersPlay Tells id line
unfolding AnswersPlay
plays_so Tells id line answer tells says = (answer_seen answer, tells, says)

pub ruleset part_steps = (tells_on, tells_why)

pub ruleset by_steps = (answers_ok, answers_refused)
