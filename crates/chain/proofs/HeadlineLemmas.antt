-- Layouts are accepted, and a thread that is shown stands.
use Rattle.std.proofs.Common.{◌≡◌, ℕ, zero, suc, ℤ, List, [], ◌∷◌, refl, sym, ◌∙◌, ap, subst, take, Option, Some, None, All}
use Rattle.std.specs.List.{slice_get}
use Rattle.std.specs.Option.{option_map}
use Rattle.ledger_views.specs.EutxoTypes.declared.fault.TxFault.{TxFault}
use Rattle.ledger_views.specs.EutxoTypes.declared.lock.Lock.{Lock}
use Rattle.ledger_views.specs.EutxoTypes.declared.lock.Lock.TheVariants.{Key, Payout, Contract}
use Rattle.ledger_views.specs.EutxoTypes.declared.output.Output.{Output}
use Rattle.ledger_views.specs.EutxoTypes.declared.output_ref.OutputRef.{OutputRef}
use Rattle.ledger_views.specs.EutxoTypes.declared.tx.Tx.{Tx}
use Rattle.ledger_views.specs.EutxoTypes.Fitting.{TxFits}
use Rattle.ledger_views.specs.EutxoTypes.Parts.{script_in, contract_in, Instance}
use Rattle.ledger_views.specs.Eutxo.Judgement.{Moment}
use Rattle.ledger_views.specs.Eutxo.Local.{verdict_of}
use Rattle.ledger_views.specs.Roles.declared.published.Published.{Published}
use Rattle.ledger_views.specs.Roles.Steps.{marlowe}
use Rattle.ledger_views.specs.Ledger.declared.call.Reply.{Reply}
use Rattle.ledger_views.specs.Ledger.declared.call.Reply.TheVariants as answer
use Rattle.ledger_views.specs.Ledger.declared.call.Ticketed.{Ticketed}
use Rattle.ledger_views.specs.Ledger.declared.look.ThreadOutput.{ThreadOutput}
use Rattle.ledger_views.specs.LedgerLaws.Laws.{AreTables}
use Rattle.ledger_views.proofs.FromLedgerLaws.PlainLaws.{same_some}
use Rattle.ledger_views.specs.LedgerLaws.Past.{Past, unspent_at}
use Rattle.ledger_views.specs.LedgerLaws.Sound.{IsSound}
use Rattle.ledger_views.specs.BuilderSpec.Parts.{ArePublished, layout_steps}
use Rattle.ledger_views.specs.BuilderSpec.Starts.{layout_start}
use Rattle.ledger_views.specs.BuilderSpec.Claims.{layout_claim}
use Rattle.builder_laws.specs.Accepting.{PartsAreAccepted, StartsAreAccepted, ClaimsAreAccepted}
use Rattle.builder_laws.specs.AfterPasts.{PartsAreAcceptedAfter, StartsAreAcceptedAfter, ClaimsAreAcceptedAfter}
use Rattle.builder_laws.specs.ShownThreads.{IsShown, ShownThreadsAreCurrent}
use Rattle.ledger_views.specs.LedgerSpec.Replay.{Course, Pending, pending_entry, World, world, past_of, published, published_at, moment_of}
use Rattle.ledger_views.specs.LedgerSpec.Views.{instance_at, thread_output, object_under, thread_output_in, thread_output_at, end_of, thread_shown, look}
use Rattle.ledger_views.specs.LedgerSpec.Calls.{fault_on, submit_reply, with_accepted_unless, round_verdicts, after_places}
use Rattle.ledger_views.proofs.FromLedgerSpec.InstanceLaws.{instance_made}
use Rattle.ledger_views.proofs.FromLedgerSpec.PublishingLaws.{found_under}
use Rattle.ledger_views.specs.LedgerSpec.AcceptedAt.{Accepts, IsOpenAfter, AcceptsPlace, IsOpenAtPlace}
use Rattle.ledger_views.specs.LedgerSpec.ThreadsShown.{ShowsCurrentThreads}
use Rattle.ledger_views.specs.LedgerSpec.Headline.{AcceptsBuilt}

-- what a course accepted is sound and fits its spelling, and what it published are tables
pub record IsSoundCourse (c : Course) : Type 0 where
  pub sound : IsSound marlowe (published_at (published c.entries)) (past_of (world c))
  pub tables : AreTables (published_at (published c.entries))
  pub fits : All TxFits (past_of (world c)).accepted

-- ---- what is built, by a Submit

pub accepts_built : PartsAreAcceptedAfter → StartsAreAcceptedAfter → ClaimsAreAcceptedAfter → (c : Course) → IsSoundCourse c → AcceptsBuilt (published_at (world c).published) (IsOpenAfter c) (Accepts c)
accepts_built parts starts claims c kept = record {
  parts = λ r ss shown clear scripts is. ap (submit_reply (layout_steps r)) (parts r ss named past tick shown clear scripts (record { fits = is.0; accepted = kept.fits }) is.1);
  starts = λ r clear script is. ap (submit_reply (layout_start r)) (starts r named past tick clear script (record { fits = is.0; accepted = kept.fits }) is.1);
  claims = λ r clear is. ap (submit_reply (layout_claim r)) (claims r named past tick clear (record { fits = is.0; accepted = kept.fits }) is.1);
}
  where
    named : List ℕ → Option Published
    named = published_at (world c).published

    past : Past
    past = past_of (world c)

    tick : ℤ
    tick = (world c).replay.tick

-- ---- at the places of a Round

-- the places of a round publish nothing
same_published : (w : World) (tx : Tx) (f : Option TxFault) → (with_accepted_unless w tx f).published ≡ w.published
same_published w tx None = refl
same_published w tx (Some f) = refl

places_publish_nothing : (w : World) (ps : List Pending) → (after_places w ps).published ≡ w.published
places_publish_nothing w [] = refl
places_publish_nothing w (p ∷ ps) = places_publish_nothing (with_accepted_unless w p.1 (fault_on w p.1)) ps ∙ same_published w p.1 (fault_on w p.1)

-- each is judged behind those before it
verdict_there : (w : World) (ps : List Pending) (k n : ℕ) (p : Pending) (v : Ticketed) → slice_get ps n ≡ Some p → slice_get (round_verdicts w (take k ps)) n ≡ Some v →
    v.verdict ≡ verdict_of (fault_on (after_places w (take n ps)) p.1)
verdict_there w [] k n p v at told = cc
verdict_there w (q ∷ ps) zero n p v at told = cc
verdict_there w (q ∷ ps) (suc k) zero p v at told =
    ap (λ (x : Ticketed). x.verdict) (sym (same_some _ v told)) ∙ ap (λ (x : Pending). verdict_of (fault_on w x.1)) (same_some q p at)
verdict_there w (q ∷ ps) (suc k) (suc n) p v at told = verdict_there (with_accepted_unless w q.1 (fault_on w q.1)) ps k n p v at told

same_round : (us vs : List Ticketed) → (let r : Reply = answer.Round us in r) ≡ answer.Round vs → us ≡ vs
same_round us vs h = cc

-- what stands where a Round judges its n-th place
abbrev at_place : Course → ℕ → World
at_place c n = after_places (world c) (take n (world c).replay.pending)

accepts_there : (c : Course) (n t : ℕ) (tx : Tx) → slice_get (world c).replay.pending n ≡ Some (pending_entry t tx) → fault_on (at_place c n) tx ≡ None → AcceptsPlace c n
accepts_there c n t tx waits free k vs v reply told =
    verdict_there (world c) (world c).replay.pending k n (pending_entry t tx) v waits (ap (λ (us : List Ticketed). slice_get us n) (same_round _ vs reply) ∙ told) ∙ ap verdict_of free

pub accepts_places : PartsAreAccepted → StartsAreAccepted → ClaimsAreAccepted → (c : Course) (n : ℕ) → AcceptsBuilt (published_at (world c).published) (IsOpenAtPlace c n) (λ tx. AcceptsPlace c n)
accepts_places parts starts claims c n = record {
  parts = λ r ss shown clear scripts is. accepts_there c n is.0 (layout_steps r) is.1 (parts r ss m shown clear (subst (λ (ps : List Published). ArePublished (published_at ps) ss) (sym still) scripts) is.2);
  starts = λ r clear script is. accepts_there c n is.0 (layout_start r) is.1 (starts r m clear (there r.published.id r.published script) is.2);
  claims = λ r clear is. accepts_there c n is.0 (layout_claim r) is.1 (claims r m clear is.2);
}
  where
    m : Moment Published
    m = moment_of (at_place c n)

    still : (at_place c n).published ≡ (world c).published
    still = places_publish_nothing (world c) (take n (world c).replay.pending)

    there : (id : List ℕ) (p : Published) → published_at (world c).published id ≡ Some p → m.published id ≡ Some p
    there id p h = ap (λ (ps : List Published). published_at ps id) still ∙ h

-- ---- what is shown

with_so : (ps : List Published) (past : Past) (q : OutputRef) (o : Output) (c : Instance) → unspent_at past q ≡ Some o → instance_at past q ≡ Some c → (lock : Lock) → o.lock ≡ lock → (t : ThreadOutput) →
    thread_output q o c.datum (object_under ps (script_in lock)) ≡ Some t → IsShown (published_at ps) past t
with_so ps past q o c h m (Key a) e t k = cc
with_so ps past q o c h m (Payout currency role) e t k = cc
with_so ps past q o c h m (Contract script d) e t k = by (published_at ps script) refl k
  where
    by : (v : Option Published) → published_at ps script ≡ v → thread_output q o c.datum v ≡ Some t → IsShown (published_at ps) past t
    by None f n = cc
    by (Some p) f n =
        let same : (let z : ThreadOutput = record { reference = q; output = o; datum = c.datum; published = p } in z) ≡ t = cc in
        subst (λ (z : ThreadOutput). IsShown (published_at ps) past z) same
        (record { lock = record { script = script; digest = d }; instance = c; unspent = h; contract = ap contract_in e; made = instance_made past q c m; datum = refl; named = f })

output_so : (ps : List Published) (past : Past) (q : OutputRef) (o : Option Output) → unspent_at past q ≡ o → (c : Option Instance) → instance_at past q ≡ c → (t : ThreadOutput) →
    thread_output_in ps q o (option_map (λ (z : Instance). z.datum) c) ≡ Some t → IsShown (published_at ps) past t
output_so ps past q None h c m t k = cc
output_so ps past q (Some o) h None m t k = cc
output_so ps past q (Some o) h (Some c) m t k = with_so ps past q o c h m o.lock refl t k

at_so : (w : World) (q : Option OutputRef) (t : ThreadOutput) → thread_output_at w q ≡ Some t → IsShown (published_at w.published) (past_of w) t
at_so w None t k = cc
at_so w (Some q) t k = output_so w.published (past_of w) q (unspent_at (past_of w) q) refl (instance_at (past_of w) q) refl t k

pub shown_so : (w : World) (r : Option OutputRef) (t : ThreadOutput) → thread_shown w r ≡ Some t → IsShown (published_at w.published) (past_of w) t
shown_so w None t k = cc
shown_so w (Some r) t k = at_so w (end_of (published_at w.published) (past_of w) r) t k

pub shows_standing : ShownThreadsAreCurrent → (c : Course) → IsSoundCourse c → ShowsCurrentThreads c
shows_standing law c kept ask t h =
    (t.datum, law (published_at (published c.entries)) (past_of (world c)) (look (world c) ask) t kept.tables (found_under (published c.entries)) kept.sound h (shown_so (world c) ask.thread t h))
