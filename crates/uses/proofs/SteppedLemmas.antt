-- What is built at the present tick is accepted.
use Rattle.std.proofs.Common.{◌≡◌, ℕ, ◌≤ℤ◌, Bool, true, false, cond, List, [], ◌∷◌, ◌++◌, refl, sym, ap, ◌∙◌, subst, Option, Some, None, Ok, Err}
use Rattle.std.specs.Prelude.{if◌then◌else◌}
use Rattle.std.specs.Int.Signed.{≤ℤ_refl}
use Rattle.std.specs.Cmp.Lexicographic.{bytes_decides}
use Rattle.std.proofs.lemmas.List.Elements.{All-nil, All-cons}
use Rattle.contract.specs.declared.input.Input.{Input}
use Rattle.contract.specs.declared.interval.Interval.{Interval}
use Rattle.chain.specs.LedgerSpec.Machine.declared.datum.Datum.{Datum}
use Rattle.chain.specs.LedgerSpec.EutxoTypes.declared.output.Output.{Output}
use Rattle.chain.specs.LedgerSpec.EutxoTypes.declared.output_ref.OutputRef.{OutputRef}
use Rattle.chain.specs.LedgerSpec.EutxoTypes.declared.tx.Tx.{Tx}
use Rattle.chain.specs.LedgerSpec.EutxoTypes.Fitting.{TxFits}
use Rattle.chain.specs.LedgerSpec.EutxoTypes.Parts.{same_bytes, script_in, ContractLock, contract_in}
use Rattle.chain.specs.LedgerSpec.Eutxo.Judgement.{judge}
use Rattle.chain.specs.LedgerSpec.Roles.declared.published.Published.{Published}
use Rattle.chain.specs.LedgerSpec.Roles.Steps.{marlowe}
use Rattle.chain.specs.LedgerSpec.LedgerLaws.Past.{Past, unspent_at}
use Rattle.chain.specs.LedgerSpec.LedgerLaws.Sound.{moment}
use Rattle.chain.specs.LedgerSpec.Ledger.declared.ask.Ask.{Ask}
use Rattle.chain.specs.LedgerSpec.Ledger.declared.call.Call.TheVariants as on
use Rattle.chain.specs.LedgerSpec.Ledger.declared.call.Entry.{Entry}
use Rattle.chain.specs.LedgerSpec.Ledger.declared.call.Reply.{Reply}
use Rattle.chain.specs.LedgerSpec.Ledger.declared.look.ThreadOutput.{ThreadOutput}
use Rattle.chain.specs.LedgerSpec.Ledger.declared.look.Unspent.{Unspent}
use Rattle.chain.specs.LedgerSpec.Open.{IsAlone}
use Rattle.chain.specs.LedgerSpec.Replay.{Replay, Course, World, replay, count_of, published_after, published_from, published, published_at, world, past_of}
use Rattle.chain.specs.LedgerSpec.Legal.{entry_of}
use Rattle.chain.specs.LedgerSpec.Views.{thread_output, made_datum, object_under, thread_output_in, thread_output_at, end_of, thread_shown}
use Rattle.chain.specs.LedgerSpec.Calls.{submit_reply, reply_to}
use Rattle.chain.specs.LedgerSpec.AcceptedAt.{IsOpenAfter}
use Rattle.chain.specs.LedgerSpec.Headline.{BuildsAreAccepted}
use Rattle.chain.proofs.FromLedgerSpec.StepLaws.{step_accepted}
use Rattle.chain.proofs.FromLedgerSpec.ReplayLaws.{replay_after}
use Rattle.chain.specs.LedgerSpec.BuilderSpec.declared.fault.BuildFault.{BuildFault}
use Rattle.chain.specs.LedgerSpec.BuilderSpec.Requests.{StepRequest, ClaimRequest}
use Rattle.chain.specs.LedgerSpec.BuilderSpec.Built.{build_answer}
use Rattle.chain.specs.LedgerSpec.BuilderSpec.Steps.{Thread, is_current, thread_in, thread_of, look_thread, own_output, step_spent}
use Rattle.chain.specs.LedgerSpec.BuilderSpec.Parts.{hinders_step, layout_step}
use Rattle.ledger_spec.proofs.FromBuilderSpec.OnePartLaws.{hinders_on, layout_on, hinders_step_on, layout_step_on}
use Rattle.chain.specs.LedgerSpec.BuilderSpec.Closings.{Closes}
use Rattle.chain.specs.LedgerSpec.BuilderSpec.Claims.{hinders_claim, layout_claim}
use Rattle.uses.specs.Uses.{called, thread_ask, thread_look, at_tick, step_asked, IsStepped, after_step, closing_asked, IsThreadClosed, NeedNotClose, claim_asked, IsClaimed, after_claim}

-- ---- a look changes nothing that a Submit reads

published_after_look : (ps : List Published) (es : List Entry) (seat number : ℕ) (ask : Ask) (reply : Reply) →
    (let e : Entry = record { seat = seat; number = number; call = on.Look ask; reply = reply } in published_from ps (es ++ e ∷ []) ≡ published_from ps es)
published_after_look ps [] seat number ask reply = refl
published_after_look ps (x ∷ es) seat number ask reply = published_after_look (published_after ps x.call x.reply) es seat number ask reply

abbrev reply_by : List Output → Tx → List Published → Replay → Reply
reply_by genesis tx ps s =
    let past : Past = record { genesis = genesis; accepted = s.accepted } in
    submit_reply tx (judge marlowe (moment (published_at ps) past s.tick) tx)

pub after_look : (c : Course) (seat : ℕ) (ask : Ask) (tx : Tx) → reply_to (world (called c seat (on.Look ask))) (on.Submit tx) ≡ reply_to (world c) (on.Submit tx)
after_look c seat ask tx =
    ap (λ (ps : List Published). reply_by c.genesis tx ps (replay c.first_tick (c.entries ++ entry_of c seat (on.Look ask) ∷ []))) (published_after_look [] c.entries seat (count_of seat c.entries) ask (reply_to (world c) (on.Look ask)))
    ∙ ap (λ (s : Replay). reply_by c.genesis tx (published c.entries) s) (replay_after (record { tick = c.first_tick; accepted = []; pending = [] }) c.entries (entry_of c seat (on.Look ask)))

-- ---- what is shown is there

-- what is found under an id has it
under_id : (ps : List Published) (id : List ℕ) (p : Published) → published_at ps id ≡ Some p → p.id ≡ id
under_id [] id p h = cc
under_id (q ∷ ps) id p h = by (same_bytes q.id id) refl h (under_id ps id p)
  where
    by : (b : Bool) → same_bytes q.id id ≡ b → cond b (Some q) (published_at ps id) ≡ Some p → (published_at ps id ≡ Some p → p.id ≡ id) → p.id ≡ id
    by true e k go = let same : q ≡ p = cc in ap (λ (x : Published). x.id) (sym same) ∙ (bytes_decides q.id id).0 e
    by false e k go = go k

of_shown_if : (t : ThreadOutput) (d : Datum) (e : Thread) (b : Bool) → (let z : Thread = record { shown = t; datum = d } in (if b then Some z else None) ≡ Some e) → e.shown ≡ t
of_shown_if t d e true k = let same : (let z : Thread = record { shown = t; datum = d } in z) ≡ e = cc in ap (λ (z : Thread). z.shown) (sym same)
of_shown_if t d e false k = cc

of_shown : (t : ThreadOutput) (c : Option ContractLock) (e : Thread) → thread_in t c ≡ Some e → e.shown ≡ t
of_shown t None e h = cc
of_shown t (Some c) e h = of_shown_if t t.datum e (is_current t c) h

look_shows : (o : Option ThreadOutput) (e : Thread) → thread_of o ≡ Some e → o ≡ Some e.shown
look_shows None e h = cc
look_shows (Some t) e h = ap (λ (x : ThreadOutput). Some x) (sym (of_shown t (contract_in t.output.lock) e h))

-- a thread's output is unspent, and what is published under its script is what is shown
record IsThere (w : World) (t : ThreadOutput) : Type 0 where
  unspent : unspent_at (past_of w) t.reference ≡ Some t.output
  named : published_at w.published t.published.id ≡ Some t.published

with_so : (w : World) (q : OutputRef) (o : Output) (d : Datum) → unspent_at (past_of w) q ≡ Some o → (c : Option (List ℕ)) → (t : ThreadOutput) → thread_output q o d (object_under w.published c) ≡ Some t → IsThere w t
with_so w q o d h None t k = cc
with_so w q o d h (Some c) t k = by (published_at w.published c) refl k
  where
    by : (v : Option Published) → published_at w.published c ≡ v → thread_output q o d v ≡ Some t → IsThere w t
    by None f m = cc
    by (Some p) f m =
        let same : (let z : ThreadOutput = record { reference = q; output = o; datum = d; published = p } in z) ≡ t = cc in
        subst (λ (z : ThreadOutput). IsThere w z) same (record { unspent = h; named = ap (published_at w.published) (under_id w.published c p f) ∙ f })

output_so : (w : World) (q : OutputRef) (o : Option Output) (d : Option Datum) → unspent_at (past_of w) q ≡ o → (t : ThreadOutput) → thread_output_in w.published q o d ≡ Some t → IsThere w t
output_so w q None d h t k = cc
output_so w q (Some o) None h t k = cc
output_so w q (Some o) (Some d) h t k = with_so w q o d h (script_in o.lock) t k

at_so : (w : World) (q : Option OutputRef) (t : ThreadOutput) → thread_output_at w q ≡ Some t → IsThere w t
at_so w None t k = cc
at_so w (Some q) t k = output_so w q (unspent_at (past_of w) q) (made_datum (past_of w) q) refl t k

shown_so : (w : World) (r : Option OutputRef) (t : ThreadOutput) → thread_shown w r ≡ Some t → IsThere w t
shown_so w None t k = cc
shown_so w (Some r) t k = at_so w (end_of (published_at w.published) (past_of w) r) t k

-- so is the thread that a look shows
there : (c : Course) (start : OutputRef) (e : Thread) → look_thread (thread_look c start) ≡ Some e → IsThere (world c) e.shown
there c start e h = shown_so (world c) (Some start) e.shown (look_shows (thread_shown (world c) (Some start)) e h)

-- ---- what a builder answers

pub built : (o : Option BuildFault) (layout tx : Tx) → build_answer o layout ≡ Ok tx → (o ≡ None) × (tx ≡ layout)
built None layout tx h = let same : layout ≡ tx = cc in (refl, sym same)
built (Some f) layout tx h = cc

pub not_built : (o : Option BuildFault) (layout : Tx) (fault : BuildFault) → build_answer o layout ≡ Err fault → o ≡ Some fault
not_built None layout fault h = cc
not_built (Some f) layout fault h = let same : f ≡ fault = cc in ap (λ (x : BuildFault). Some x) same

-- ---- a step

thread_there : (r : StepRequest) (o : Option Thread) → hinders_on r o ≡ None → (e : Thread) × (o ≡ Some e)
thread_there r None h = cc
thread_there r (Some e) h = (e, refl)

interval_is : (r : StepRequest) (o : Option Thread) → (layout_on r o).interval ≡ r.interval
interval_is r None = refl
interval_is r (Some e) = refl

-- a step with nothing offered finds at the present tick what it spends
opened : (c : Course) (start : OutputRef) (inputs : List Input) (signers : List (List ℕ)) (change : List ℕ) (e : Thread) → look_thread (thread_look c start) ≡ Some e →
    TxFits (layout_step (thread_look c start) (step_asked c inputs signers change)) → IsAlone (past_of (world c)) (layout_step (thread_look c start) (step_asked c inputs signers change)) →
    IsOpenAfter c (step_spent (step_asked c inputs signers change) e) (layout_step (thread_look c start) (step_asked c inputs signers change))
opened c start inputs signers change e h fits alone =
    let P : Unspent → Type 0 = λ u. unspent_at (past_of (world c)) u.reference ≡ Some u.output in
    let same = ap (λ (x : Tx). x.interval) (layout_step_on (thread_look c start) (step_asked c inputs signers change)) ∙ interval_is (step_asked c inputs signers change) (look_thread (thread_look c start)) in (
      fits,
      record {
        unspent = All-cons P (own_output e) [] (there c start e h).unspent (All-nil P);
        alone = alone;
        from = subst (λ (i : Interval). i.from ≤ℤ (world c).replay.tick) (sym same) (≤ℤ_refl (world c).replay.tick);
        to = subst (λ (i : Interval). (world c).replay.tick ≤ℤ i.to) (sym same) (≤ℤ_refl (world c).replay.tick);
      },
    )

pub stepped : (c : Course) (seat : ℕ) (start : OutputRef) (inputs : List Input) (signers : List (List ℕ)) (change : List ℕ) (tx : Tx) (reply : Reply) → BuildsAreAccepted c →
    build_answer (hinders_step (thread_look c start) (step_asked c inputs signers change)) (layout_step (thread_look c start) (step_asked c inputs signers change)) ≡ Ok tx → TxFits tx →
    reply ≡ reply_to (world (called c seat (on.Look (thread_ask start)))) (on.Submit tx) → IsStepped c start (step_asked c inputs signers change) reply
stepped c seat start inputs signers change tx reply second b fits h =
    let l = thread_look c start in
    let r = step_asked c inputs signers change in
    let clear = built (hinders_step l r) (layout_step l r) tx b in
    let t = thread_there r (look_thread l) (sym (hinders_step_on l r) ∙ clear.0) in
    record {
      thread = t.0;
      shown = t.1;
      clear = clear.0;
      accepted =
          λ alone. h ∙ after_look c seat (thread_ask start) tx ∙ ap (λ (x : Tx). reply_to (world c) (on.Submit x)) clear.1
          ∙ step_accepted second.built l r t.0 t.1 clear.0 (there c start t.0 t.1).named (opened c start inputs signers change t.0 t.1 (subst (λ (x : Tx). TxFits x) clear.1 fits) alone);
    }

pub after_stepped : (c new : Course) (seat : ℕ) (start : OutputRef) (r : StepRequest) (tx : Tx) → build_answer (hinders_step (thread_look c start) r) (layout_step (thread_look c start) r) ≡ Ok tx →
    new ≡ called (called c seat (on.Look (thread_ask start))) seat (on.Submit tx) → new ≡ after_step c seat start r
after_stepped c new seat start r tx b h =
    h ∙ ap (λ (x : Tx). called (called c seat (on.Look (thread_ask start))) seat (on.Submit x)) (built (hinders_step (thread_look c start) r) (layout_step (thread_look c start) r) tx b).1

-- ---- closing

pub closed : (c : Course) (start : OutputRef) (change : List ℕ) (reply : Reply) → BuildsAreAccepted c → IsStepped c start (closing_asked c change) reply → IsThreadClosed c start change reply
closed c start change reply second s =
    record {
      stepped = s;
      paid =
          λ over. subst (Closes (closing_asked c change) s.thread) s.clear
          (second.closes (thread_ask start) s.thread (at_tick c) [] change s.shown over.reached (≤ℤ_refl (world c).replay.tick) over.time).outcome;
    }

pub need_not : (c : Course) (start : OutputRef) (change : List ℕ) (fault : BuildFault) → BuildsAreAccepted c → hinders_step (thread_look c start) (closing_asked c change) ≡ Some fault → NeedNotClose c start change fault
need_not c start change fault second h e shown over =
    subst (Closes (closing_asked c change) e) h (second.closes (thread_ask start) e (at_tick c) [] change shown over.reached (≤ℤ_refl (world c).replay.tick) over.time).outcome

-- ---- a claim

pub claimed : (c : Course) (payouts : List Unspent) (signers : List (List ℕ)) (offered : List Unspent) (to : List ℕ) (tx : Tx) (reply : Reply) → BuildsAreAccepted c →
    build_answer (hinders_claim (claim_asked c payouts signers offered to)) (layout_claim (claim_asked c payouts signers offered to)) ≡ Ok tx → TxFits tx → reply ≡ reply_to (world c) (on.Submit tx) →
    IsClaimed c (claim_asked c payouts signers offered to) reply
claimed c payouts signers offered to tx reply second b fits h =
    let r = claim_asked c payouts signers offered to in
    let clear = built (hinders_claim r) (layout_claim r) tx b in
    record {
      clear = clear.0;
      accepted =
          λ unspent alone. h ∙ ap (λ (x : Tx). reply_to (world c) (on.Submit x)) clear.1
          ∙ (second.built).claims r clear.0 (subst (λ (x : Tx). TxFits x) clear.1 fits, record { unspent = unspent; alone = alone; from = ≤ℤ_refl (world c).replay.tick; to = ≤ℤ_refl (world c).replay.tick });
    }

pub after_claimed : (c new : Course) (seat : ℕ) (r : ClaimRequest) (tx : Tx) → build_answer (hinders_claim r) (layout_claim r) ≡ Ok tx → new ≡ called c seat (on.Submit tx) → new ≡ after_claim c seat r
after_claimed c new seat r tx b h = h ∙ ap (λ (x : Tx). called c seat (on.Submit x)) (built (hinders_claim r) (layout_claim r) tx b).1
