-- One step of the question after another.
use Rattle.std.proofs.Common.{◌≡◌, ◌≢◌, ℕ, suc, ◌+◌, ◌<◌, List, [], ◌∷◌, length, refl, arith, sym, ap, ◌∙◌, subst, Option, Result, Ok, Err}
use Rattle.std.specs.Prelude.{IfOk}
use Rattle.std.specs.declared.vec.Vec.{Vec}
use Rattle.std.specs.declared.alloc.Global.{Global}
use Rattle.contract.specs.Collections.Answers.{◌>>=◌, AsideBy}
use Rattle.contract.specs.declared.fault.SemFault.{SemFault}
use Rattle.contract.specs.declared.fault.SemFault.TheVariants as sem
use Rattle.contract.specs.declared.interval.Interval.{Interval}
use Rattle.contract.specs.declared.transaction.Transaction.{Transaction}
use Rattle.contract.specs.Tree.{ContractTree}
use Rattle.contract.specs.States.States.{StateMaps}
use Rattle.marlowe_run.specs.Semantics.Walk.{Standing, standing, answer_of}
use Rattle.next_inputs.specs.Opening.{opening}
use Rattle.analysis_spec.specs.declared.path.PathStep.{PathStep}
use Rattle.analysis_spec.specs.Marks.{leads_after}
use Rattle.analysis_spec.specs.Runs.{walk_from}
use Rattle.trace.specs.declared.refused.Refused.{Refused}
use Rattle.trace.specs.Traces.{left_then, left_by}
use Rattle.marlowe_run.specs.JsonReadNames.declared.fault.JsonFault.{JsonFault}
use Rattle.marlowe_run.specs.JsonReadNames.Parts.{Reading}
use Rattle.marlowe_run.specs.MarloweRefusals.declared.fault.RunFault.TheVariants as run
use Rattle.marlowe_run.specs.MarloweRefusals.declared.trace_fault.TraceFault.{TraceFault}
use Rattle.marlowe_run.specs.MarloweRefusals.declared.trace_fault.TraceFault.TheVariants as trace
use Rattle.marlowe_run.specs.MarloweRefusals.Faults.{read_as, semantics_fault}
use Rattle.marlowe_run.specs.MarloweRefusals.TraceFaults.{told_as, refused_fault}
use Rattle.marlowe_next.specs.declared.asked.Asked.{Asked}
use Rattle.marlowe_next.specs.Question.{Reached, reached_by, interval_at, answered}
use Rattle.marlowe_next.specs.Answer.{IsAnswerUpTo}
use Rattle.marlowe_next.specs.AnswerSupport.{Answers, AnswersUpTo, TellsSettled}

abbrev Text : Type 0
Text = Result (Vec ℕ Global) TraceFault

-- a part that ends well, and what comes behind it
read_well : {X R : Type 0} (fault : JsonFault → TraceFault) (k : X → Result R TraceFault) (r : Reading X) (x : X) → r ≡ Ok x → (read_as fault r >>= k) ≡ k x
read_well fault k (Ok y) x e = let p : y ≡ x = cc in ap k p
read_well fault k (Err f) x e = absurd (cc)

told_well : {X E R : Type 0} (fault : E → TraceFault) (k : X → Result R TraceFault) (r : Result X E) (x : X) → r ≡ Ok x → (told_as fault r >>= k) ≡ k x
told_well fault k (Ok y) x e = let p : y ≡ x = cc in ap k p
told_well fault k (Err f) x e = absurd (cc)

-- the answer is that of what comes behind
pub reads_on : {X : Type 0} (q : Asked) (fault : JsonFault → TraceFault) (k : X → Result Reached TraceFault) (r : Reading X) (x : X) (text : Text) → r ≡ Ok x → Answers q (k x) text → Answers q (read_as fault r >>= k) text
reads_on q fault k r x text e h = subst (λ (a : Result Reached TraceFault). Answers q a text) (sym (read_well fault k r x e)) h

pub goes_on : {X E : Type 0} (q : Asked) (fault : E → TraceFault) (k : X → Result Reached TraceFault) (r : Result X E) (x : X) (text : Text) → r ≡ Ok x → Answers q (k x) text → Answers q (told_as fault r >>= k) text
goes_on q fault k r x text e h = subst (λ (a : Result Reached TraceFault). Answers q a text) (sym (told_well fault k r x e)) h

-- a fault of a part, unless memory was refused
read_badly : {X : Type 0} (q : Asked) (fault : JsonFault → TraceFault) (k : X → Result Reached TraceFault) (r : Reading X) (f : JsonFault) → r ≡ Err f → answered q (read_as fault r >>= k) ≡ Err (fault f)
read_badly q fault k (Ok y) f e = absurd (cc)
read_badly q fault k (Err g) f e = let p : g ≡ f = cc in ap (λ (z : JsonFault). let a : Result (Unit {0}) TraceFault = Err (fault z) in a) p

told_badly : {X E : Type 0} (q : Asked) (fault : E → TraceFault) (k : X → Result Reached TraceFault) (r : Result X E) (f : E) → r ≡ Err f → answered q (told_as fault r >>= k) ≡ Err (fault f)
told_badly q fault k (Ok y) f e = absurd (cc)
told_badly q fault k (Err g) f e = let p : g ≡ f = cc in ap (λ z. let a : Result (Unit {0}) TraceFault = Err (fault z) in a) p

same_fault : (g h : TraceFault) → g ≡ h → ◌≡◌ {A = Result (Unit {0}) TraceFault} (Err h) (Err g)
same_fault g h e = ap (λ (z : TraceFault). let a : Result (Unit {0}) TraceFault = Err z in a) (sym e)

pub reads_badly : {X : Type 0} (q : Asked) (memory : JsonFault) (fault : JsonFault → TraceFault) (k : X → Result Reached TraceFault) (r : Reading X) (f : JsonFault) (g : TraceFault) → fault memory ≡ trace.Run run.Memory → (f ≢ memory → r ≡ Err f) → g ≡ fault f
    → g ≢ trace.Run run.Memory → answered q (read_as fault r >>= k) ≡ Err g
reads_badly q memory fault k r f g m h e n = read_badly q fault k r f (h (λ x. n (e ∙ ap fault x ∙ m))) ∙ same_fault g (fault f) e

pub goes_badly : {X E : Type 0} (q : Asked) (memory : E) (fault : E → TraceFault) (k : X → Result Reached TraceFault) (r : Result X E) (f : E) (g : TraceFault) → fault memory ≡ trace.Run run.Memory → (f ≢ memory → r ≡ Err f) → g ≡ fault f
    → g ≢ trace.Run run.Memory → answered q (told_as fault r >>= k) ≡ Err g
goes_badly q memory fault k r f g m h e n = told_badly q fault k r f (h (λ x. n (e ∙ ap fault x ∙ m))) ∙ same_fault g (fault f) e

-- ---- transactions

index_then : (o : Result Standing SemFault) (n : ℕ) (ts : List Transaction) (r : Refused) {f : Standing → Result Standing Refused} → left_then o n f ≡ Err r → ((b : Standing) → f b ≡ Err r → r.index < suc n + length ts) → r.index < n + suc (length ts)
index_then (Ok b) n ts r e h = let l = h b e in omega arith
index_then (Err g) n ts r e h = let p : n ≡ r.index = cc in omega arith

-- the index of a transaction that is refused is one of theirs
index_below : (n : ℕ) (a : Standing) (ts : List Transaction) (r : Refused) → left_by n a ts ≡ Err r → r.index < n + length ts
index_below n a [] r e = absurd (cc)
index_below n a (t ∷ ts) r e = index_then (answer_of (walk_from a t)) n ts r e (λ b k. index_below (suc n) b ts r k)

pub first_refused : (a : Standing) (ts : List Transaction) (r : Refused) → left_by 0 a ts ≡ Err r → r.index < length ts
first_refused a ts r e = let l = index_below 0 a ts r e in omega arith

-- where they lead
pub leads_on : (q : Asked) (c : ContractTree) (s : StateMaps) (ts : List Transaction) (path : List PathStep) (a : Standing) (text : Text) → left_by 0 (standing s c) ts ≡ Ok a → path ≡ leads_after [] (standing s c) ts
    → Answers q (Ok (record { whole = c; path = path; there = a })) text → Answers q (reached_by c s ts) text
leads_on q c s ts path a text e is h =
    goes_on q _ (λ b. let r : Result Reached TraceFault = Ok (record { whole = c; path = leads_after [] (standing s c) ts; there = b }) in r) (left_by 0 (standing s c) ts) a text e
    (subst (λ (p : List PathStep). Answers q (Ok (record { whole = c; path = p; there = a })) text) is h)

-- or the first that is refused
pub leads_badly : (q : Asked) (c : ContractTree) (s : StateMaps) (ts : List Transaction) (r : Refused) (g : TraceFault) → (r.fault ≢ sem.Memory → left_by 0 (standing s c) ts ≡ Err r) → g ≡ refused_fault (r.index + 1) r.fault
    → g ≢ trace.Run run.Memory → answered q (reached_by c s ts) ≡ Err g
leads_badly q c s ts r g h e n =
    told_badly q _ (λ b. let r : Result Reached TraceFault = Ok (record { whole = c; path = leads_after [] (standing s c) ts; there = b }) in r) (left_by 0 (standing s c) ts) r
    (h (λ m. n (e ∙ ap (refused_fault (r.index + 1)) m)))
    ∙ same_fault g (refused_fault (r.index + 1) r.fault) e

-- ---- the interval

pub left_answer : (most : Option ℕ) (q : Asked) (r : Reached) (b : Standing) (i : Interval) (text : List ℕ) → i ≡ interval_at q r → answer_of (opening i r.there.state r.there.contract) ≡ Ok b → TellsSettled most i r b q.json text → IsAnswerUpTo most q (Ok r) text
left_answer most q r b i text e h t =
    let told = subst (λ (j : Interval). TellsSettled most j r b q.json text) e t in
    let stands = subst (λ (j : Interval). answer_of (opening j r.there.state r.there.contract) ≡ Ok b) e h in
    record { where_led = r; leads = refl; left = b; settles = ap (told_as (λ f. trace.Run (semantics_fault f))) stands; offers = told.0; offered = told.1; is = told.2 }

pub left_badly : (q : Asked) (r : Reached) (i : Interval) (f : SemFault) (g : TraceFault) → i ≡ interval_at q r → (f ≢ sem.Memory → answer_of (opening i r.there.state r.there.contract) ≡ Err f) → g ≡ trace.Run (semantics_fault f)
    → g ≢ trace.Run run.Memory → answered q (Ok r) ≡ Err g
left_badly q r i f g e h is n =
    let refused = subst (λ (j : Interval). answer_of (opening j r.there.state r.there.contract) ≡ Err f) e (h (λ m. n (is ∙ ap (λ x. trace.Run (semantics_fault x)) m))) in
    ap (λ (a : Result Standing SemFault). told_as (λ f. trace.Run (semantics_fault f)) a >>= λ _. let d : Result (Unit {0}) TraceFault = Ok tt in d) refused ∙ same_fault g (trace.Run (semantics_fault f)) is

-- ---- both clauses

pub texts_so : (most : Option ℕ) (q : Asked) (reached : Result Reached TraceFault) (text : Text) → AnswersUpTo most q reached text → IfOk text (λ t. IsAnswerUpTo most q reached t.items)
texts_so most q reached (Ok t) h = h
texts_so most q reached (Err f) h = tt

ends_well : (most : Option ℕ) (q : Asked) (reached : Result Reached TraceFault) (text : List ℕ) → IsAnswerUpTo most q reached text → answered q reached ≡ Ok tt
ends_well most q reached text h = ap (answered q) h.leads ∙ ap (λ a. a >>= λ _. let e : Result (Unit {0}) TraceFault = Ok tt in e) h.settles

pub answers_so : (most : Option ℕ) (q : Asked) (reached : Result Reached TraceFault) (text : Text) → AnswersUpTo most q reached text → AsideBy (trace.Run run.Memory) (λ _. tt) text (answered q reached)
answers_so most q reached (Ok t) h = ends_well most q reached t.items h
answers_so most q reached (Err f) h = h
