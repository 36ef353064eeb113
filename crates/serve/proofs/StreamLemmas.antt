-- How a stream is answered, step by step.
use Rattle.std.proofs.Common.{◌≡◌, ℕ, zero, suc, ◌+◌, List, [], ◌∷◌, ◌++◌, length, Bool, true, false, Some, None, Result, Ok, Err, inl, inr, refl, sym, ap, ◌∙◌, subst, arith, append_assoc, append-nil, length-append}
use Rattle.std.specs.Prelude.{IfOk, OnErr}
use Rattle.std.specs.declared.vec.Vec.{Vec}
use Rattle.std.specs.declared.alloc.Global.{Global}
use Rattle.std.specs.declared.alloc.AllocError.{AllocError}
use Rattle.std.specs.Io.KnownBytes.{Appends, Consumes, IsAtEnd}
use Rattle.std.specs.declared.option.Option.{Option}
use Rattle.std.proofs.KnownBytes.{Appends-trans}
use Rattle.request_answers.specs.RequestReasons.Definitions.declared.definition.Definition.{Definition}
use Rattle.lines_in.specs.Held.{Held, come}
use Rattle.lines_in.specs.Lines.{Line, lines_of}
use Rattle.lines_in.specs.Lines as in_lines
use Rattle.request_answers.specs.MarloweTrace.MarloweRun.declared.readable.Readable.{Readable}
use Rattle.serve.specs.Answers.{IsAnswerWith, IsTooLongAnswer}
use Rattle.request_answers.specs.Playing.{Plays}
use Rattle.serve.specs.Streams.{Answered, IsServed, IsServedSoFar, Serves}
use Rattle.serve.specs.StreamsSupport.{Adds, Sent, StillCome, Going, Stopped, put_text}

-- ---- what has gone out

pub appends-nothing : (old : Option (List ℕ)) → Appends old old []
appends-nothing None = tt
appends-nothing (Some xs) = sym (append-nil xs)

-- a text waits behind the others
pub waits-behind : (old : Option (List ℕ)) (waits text : List ℕ) → Adds old waits old (waits ++ text) text
waits-behind old waits text = ([], appends-nothing old, refl)

-- all that waited has gone out, and then a text
pub goes-out : (old mid new : Option (List ℕ)) (waits none text : List ℕ) → Appends old mid waits → none ≡ [] → Appends mid new text → Adds old waits new none text
goes-out old mid new waits none text first empty next =
    (waits ++ text, Appends-trans old mid new waits text first next, sym (append-nil (waits ++ text)) ∙ ap (λ more. (waits ++ text) ++ more) (sym empty))

sent-more : (begun old new : Option (List ℕ)) (waited waits answers text : List ℕ) → Sent begun old waited answers → Adds old waited new waits text → Sent begun new waits (answers ++ text)
sent-more begun old new waited waits answers text (sent, appended, is) (out, more, all) = (
  sent ++ out,
  Appends-trans begun old new sent out appended more,
  ap (λ a. a ++ text) is ∙ append_assoc sent waited text ∙ ap (λ b. sent ++ b) all ∙ sym (append_assoc sent out waits),
)

-- ---- what is still to come

come-on : (first left : Option (List ℕ)) (old new : Held) (done given : List Line) → StillCome first left old done → new.has_ended ≡ old.has_ended
    → ((rest : List ℕ) → (old.has_ended ≡ true → rest ≡ []) → come old rest ≡ given ++ come new rest) → StillCome first left new (done ++ given)
come-on None left old new done given h kept step = tt
come-on (Some bytes) left old new done given (rest, is, over, all) kept step =
    (rest, is, (λ ended. over (sym kept ∙ ended)), all ∙ ap (λ ls. done ++ ls) (step rest over) ∙ sym (append_assoc done given (come new rest)))

come-more : (first before after : Option (List ℕ)) (old new : Held) (done : List Line) (bytes : List ℕ) → StillCome first before old done → Consumes before after bytes
    → ((rest : List ℕ) → come new rest ≡ come old (bytes ++ rest)) → (new.has_ended ≡ true → IsAtEnd after) → StillCome first after new done
come-more None before after old new done bytes h reads same over = tt
come-more (Some all) None after old new done bytes (rest, is, kept, whole) reads same over = absurd (cc)
come-more (Some all) (Some xs) None old new done bytes (rest, is, kept, whole) reads same over = absurd reads
come-more (Some all) (Some xs) (Some ys) old new done bytes (rest, is, kept, whole) reads same over =
    let these : xs ≡ rest = cc in
    (ys, refl, over, whole ∙ ap (λ r. done ++ come old r) (sym these ∙ reads) ∙ ap (λ ls. done ++ ls) (sym (same ys)))

-- ---- what is answered

serve-one : (plays : Plays) (r : Readable) (defs mid after : List Definition) (n : ℕ) (lines : List Line) (answers : List ℕ) (line : Line) (answer : List ℕ)
    → Serves plays r defs n lines answers mid → Answered plays r mid (suc (n + length lines)) line answer after → Serves plays r defs n (lines ++ line ∷ []) (answers ++ answer) after
serve-one plays r defs mid after n [] answers line answer (none, same) h =
    let here : Answered plays r defs (suc n) line answer after
    = subst (λ (ds : List Definition). Answered plays r ds (suc n) line answer after) same (subst (λ k. Answered plays r mid (suc k) line answer after) (omega arith) h) in
    (answer, after, [], here, (refl, refl), ap (λ a. a ++ answer) none ∙ sym (append-nil answer))
serve-one plays r defs mid after n (l ∷ lines) answers line answer (first, next, rest, is, others, all) h =
    let later : Answered plays r mid (suc (suc n + length lines)) line answer after = subst (λ k. Answered plays r mid (suc k) line answer after) (omega arith) h in
    (first, next, rest ++ answer, is, serve-one plays r next mid after (suc n) lines rest line answer others later, ap (λ a. a ++ answer) all ∙ append_assoc first rest answer)

-- ---- steps

begins : (first : Option (List ℕ)) (held : Held) → held.has_ended ≡ false → ((bytes : List ℕ) → come held bytes ≡ lines_of bytes) → StillCome first first held []
begins None held kept all = tt
begins (Some bytes) held kept all = (bytes, refl, (λ ended. absurd (cc)), sym (all bytes))

pub starts : (plays : Plays) (r : Readable) (first begun : Option (List ℕ)) (held : Held) (defs : List Definition) (waits : List ℕ) → held.has_ended ≡ false
    → ((bytes : List ℕ) → come held bytes ≡ lines_of bytes) → defs ≡ [] → waits ≡ [] → Going plays r first begun first begun held defs 0 waits
starts plays r first begun held defs waits kept all none empty = record {
  done = [];
  answers = [];
  serves = (refl, none);
  count = refl;
  sent = ([], appends-nothing begun, sym empty);
  to_come = begins first held kept all;
}

-- a line is answered
pub goes-on : (plays : Plays) (r : Readable) (first begun left now after : Option (List ℕ)) (old new : Held) (defs names : List Definition) (number next : ℕ) (waited waits : List ℕ) (line : Line) (answer : List ℕ) (given : List Line)
    → Going plays r first begun left now old defs number waited → new.has_ended ≡ old.has_ended
    → ((rest : List ℕ) → (old.has_ended ≡ true → rest ≡ []) → come old rest ≡ given ++ come new rest) → given ≡ line ∷ [] → next ≡ number + 1
    → Answered plays r defs next line answer names → Adds now waited after waits answer → Going plays r first begun left after new names next waits
goes-on plays r first begun left now after old new defs names number next waited waits line answer given h kept step is one answered adds = record {
  done = h.done ++ line ∷ [];
  answers = h.answers ++ answer;
  serves = serve-one plays r [] defs names 0 h.done h.answers line answer h.serves (subst (λ k. Answered plays r defs k line answer names) (omega (arith, h.count)) answered);
  count = omega (arith, h.count, length-append h.done (line ∷ []));
  sent = sent-more begun now after waited waits h.answers answer h.sent adds;
  to_come = subst (λ (g : List Line). StillCome first left new (h.done ++ g)) is (come-on first left old new h.done given h.to_come kept step);
}

-- nothing is given
pub stays : (plays : Plays) (r : Readable) (first begun left now after : Option (List ℕ)) (old new : Held) (defs : List Definition) (number : ℕ) (waited none : List ℕ) (given : List Line)
    → Going plays r first begun left now old defs number waited → new.has_ended ≡ old.has_ended
    → ((rest : List ℕ) → (old.has_ended ≡ true → rest ≡ []) → come old rest ≡ given ++ come new rest) → given ≡ [] → Appends now after waited → none ≡ []
    → Going plays r first begun left after new defs number none
stays plays r first begun left now after old new defs number waited none given h kept step is out empty = record {
  done = h.done;
  answers = h.answers;
  serves = h.serves;
  count = h.count;
  sent = subst (λ a. Sent begun after none a) (append-nil h.answers) (sent-more begun now after waited none h.answers [] h.sent (waited, out, ap (λ w. waited ++ w) (sym empty)));
  to_come = subst (λ (ls : List Line). StillCome first left new ls) (ap (λ g. h.done ++ g) is ∙ append-nil h.done) (come-on first left old new h.done given h.to_come kept step);
}

-- more is read
pub reads-on : (plays : Plays) (r : Readable) (first begun before after now : Option (List ℕ)) (old new : Held) (defs : List Definition) (number : ℕ) (waits bytes : List ℕ)
    → Going plays r first begun before now old defs number waits → Consumes before after bytes → ((rest : List ℕ) → come new rest ≡ come old (bytes ++ rest))
    → (new.has_ended ≡ true → IsAtEnd after) → Going plays r first begun after now new defs number waits
reads-on plays r first begun before after now old new defs number waits bytes h reads same over = record {
  done = h.done;
  answers = h.answers;
  serves = h.serves;
  count = h.count;
  sent = h.sent;
  to_come = come-more first before after old new h.done bytes h.to_come reads same over;
}

ended-by : (plays : Plays) (r : Readable) (first left : Option (List ℕ)) (held : Held) (done : List Line) (answers : List ℕ) (defs : List Definition) → StillCome first left held done
    → held.has_ended ≡ true → come held [] ≡ [] → Serves plays r [] 0 done answers defs → IsServed plays r first answers
ended-by plays r None left held done answers defs h over none serves = tt
ended-by plays r (Some bytes) left held done answers defs (rest, is, kept, all) over none serves =
    let last : come held rest ≡ [] = subst (λ b. come held b ≡ []) (sym (kept over)) none in
    (defs, subst (λ (ls : List Line). Serves plays r [] 0 ls answers defs) (sym (append-nil done) ∙ ap (λ ls. done ++ ls) (sym last) ∙ sym all) serves)

-- all lines are answered
pub ends : (plays : Plays) (r : Readable) (first begun left now : Option (List ℕ)) (held : Held) (defs : List Definition) (number : ℕ) (waits : List ℕ) → Going plays r first begun left now held defs number waits
    → waits ≡ [] → held.has_ended ≡ true → come held [] ≡ [] → (answers : List ℕ) × Appends begun now answers × IsServed plays r first answers
ends plays r first begun left now held defs number waits h empty over none =
    let (out, appended, is) = h.sent in
    (h.answers, subst (λ a. Appends begun now a) (sym (is ∙ ap (λ w. out ++ w) empty ∙ append-nil out)) appended, ended-by plays r first left held h.done h.answers defs h.to_come over none h.serves)

so-far : (plays : Plays) (r : Readable) (first left : Option (List ℕ)) (held : Held) (done : List Line) (answers : List ℕ) (defs : List Definition) → StillCome first left held done
    → Serves plays r [] 0 done answers defs → IsServedSoFar plays r first answers
so-far plays r None left held done answers defs h serves = tt
so-far plays r (Some bytes) left held done answers defs (rest, is, kept, all) serves = (done, come held rest, defs, all, serves)

-- no more is read once all that waited has gone out
pub stops : (plays : Plays) (r : Readable) (first begun left now after : Option (List ℕ)) (held : Held) (defs : List Definition) (number : ℕ) (waits : List ℕ)
    → Going plays r first begun left now held defs number waits → Appends now after waits → Stopped plays r first begun after
stops plays r first begun left now after held defs number waits h out =
    let (sent, appended, is) = h.sent in
    (h.answers, subst (λ a. Appends begun after a) (sym is) (Appends-trans begun now after sent waits appended out), so-far plays r first left held h.done h.answers defs h.to_come h.serves)

-- a text waits behind the others, as it is put there
pub waits-now : (old : Option (List ℕ)) (waited waits text : List ℕ) → waits ≡ waited ++ text → Adds old waited old waits text
waits-now old waited waits text is = subst (λ w. Adds old waited old w text) (sym is) (waits-behind old waited text)

-- what waited is as before
pub adds-same : (old new : Option (List ℕ)) (waited before waits text : List ℕ) → before ≡ waited → Adds old before new waits text → Adds old waited new waits text
adds-same old new waited before waits text is h = subst (λ w. Adds old w new waits text) is h

pub ruleset put_steps = (waits-now, goes-out, adds-same)

-- ---- a line that has come

answers-text : (plays : Plays) (r : Readable) (defs names : List Definition) (number : ℕ) (line : List ℕ) (answer : Result (Vec ℕ Global) AllocError) → IfOk answer (λ t. IsAnswerWith plays r defs number line t.items names) → OnErr answer (names ≡ defs)
    → Answered plays r defs number (in_lines.text line) (put_text answer) names
answers-text plays r defs names number line (Ok t) h same = inl h
answers-text plays r defs names number line (Err e) h same = inr (refl, same)

answers-long : (plays : Plays) (r : Readable) (defs : List Definition) (number : ℕ) (answer : Result (Vec ℕ Global) AllocError) → IfOk answer (λ t. IsTooLongAnswer number t.items) → Answered plays r defs number in_lines.too_long (put_text answer) defs
answers-long plays r defs number (Ok t) h = inl (h, refl)
answers-long plays r defs number (Err e) h = inr (refl, refl)

pub text-goes-on : (plays : Plays) (r : Readable) (first begun left now after : Option (List ℕ)) (old new : Held) (defs names : List Definition) (number : ℕ) (waited waits line given : List ℕ) (lines : List Line) (answer : Result (Vec ℕ Global) AllocError)
    → new.has_ended ≡ old.has_ended → ((rest : List ℕ) → (old.has_ended ≡ true → rest ≡ []) → come old rest ≡ lines ++ come new rest) → lines ≡ in_lines.text line ∷ [] → given ≡ line
    → IfOk answer (λ t. IsAnswerWith plays r defs (number + 1) given t.items names) → OnErr answer (names ≡ defs) → Adds now waited after waits (put_text answer)
    → Going plays r first begun left now old defs number waited → Going plays r first begun left after new names (number + 1) waits
text-goes-on plays r first begun left now after old new defs names number waited waits line given lines answer kept step one same h err adds going =
    goes-on plays r first begun left now after old new defs names number (number + 1) waited waits (in_lines.text line) (put_text answer) lines going kept step one refl
    (subst (λ (l : List ℕ). Answered plays r defs (number + 1) (in_lines.text l) (put_text answer) names) same (answers-text plays r defs names (number + 1) given answer h err)) adds

pub long-goes-on : (plays : Plays) (r : Readable) (first begun left now after : Option (List ℕ)) (old new : Held) (defs : List Definition) (number : ℕ) (waited waits : List ℕ) (lines : List Line) (answer : Result (Vec ℕ Global) AllocError)
    → new.has_ended ≡ old.has_ended → ((rest : List ℕ) → (old.has_ended ≡ true → rest ≡ []) → come old rest ≡ lines ++ come new rest) → lines ≡ in_lines.too_long ∷ []
    → IfOk answer (λ t. IsTooLongAnswer (number + 1) t.items) → Adds now waited after waits (put_text answer)
    → Going plays r first begun left now old defs number waited → Going plays r first begun left after new defs (number + 1) waits
long-goes-on plays r first begun left now after old new defs number waited waits lines answer kept step one h adds going =
    goes-on plays r first begun left now after old new defs defs number (number + 1) waited waits in_lines.too_long (put_text answer) lines going kept step one refl (answers-long plays r defs (number + 1) answer h) adds

-- a result that is true
pub is-true : {E : Type 0} (r : Result Bool E) (b : Bool) → r ≡ Ok b → b ≡ true → r ≡ Ok true
is-true r b is test = subst (λ (x : Bool). r ≡ Ok x) test is

pub ruleset read_steps = (reads-on)

pub ruleset turn_steps = (goes-on, stays, stops)

pub ruleset serve_steps = (starts, ends, stops)
