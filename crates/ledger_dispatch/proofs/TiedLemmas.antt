-- Of what an index is, after a transaction and after a call.
use Rattle.std.proofs.Common.{◌≡◌, ℕ, ℤ, [], ◌∷◌, ◌++◌, sym, ◌∙◌, ap, subst, refl, Bool, true, false, length, take, Option, Some, None, Result, Ok, Err}
use Rattle.std.specs.Prelude.{if◌then◌else◌, int_le, nat_lt, is_some}
use Rattle.std.proofs.lemmas.List.Elements.{All-nil, All-cons, All-append}
use Rattle.ledger_views.specs.Compiler.declared.fault.CompileFault.{CompileFault}
use Rattle.ledger_views.specs.EutxoTypes.declared.fault.TxFault.{TxFault}
use Rattle.ledger_views.specs.EutxoTypes.declared.tx.Tx.{Tx}
use Rattle.ledger_views.specs.EutxoTypes.Fitting.{TxFits}
use Rattle.ledger_views.specs.Eutxo.declared.judged.Judged.{Judged}
use Rattle.ledger_views.specs.Eutxo.Blocks.{places_in}
use Rattle.ledger_views.specs.Eutxo.Judgement.{Moment, found, judge}
use Rattle.ledger_views.specs.Eutxo.Local.{places_of, unless_refused}
use Rattle.ledger_views.specs.Roles.declared.published.Published.{Published}
use Rattle.ledger_views.specs.Roles.Steps.{marlowe}
use Rattle.ledger_views.specs.Ledger.declared.call.Call.TheVariants as on
use Rattle.ledger_views.specs.Ledger.declared.call.Reply.TheVariants as answer
use Rattle.ledger_views.specs.LedgerLaws.Laws.{AfterIsSound, LaterIsSound}
use Rattle.ledger_views.specs.LedgerSpec.Replay.{World, past_of, moment_of, published_at, with_object, after_call}
use Rattle.ledger_views.specs.LedgerSpec.Calls.{most_pending, fault_on, with_accepted_unless, submit_reply, round_verdicts}
use Rattle.ledger_views.proofs.FromLedgerSpec.PublishingLaws.{with_stays}
use Rattle.ledger_views.specs.ChainIndex.Contents.{Contents, contents_of, blocks_in, accepting, moment_at, CanBeAdded}
use Rattle.ledger_views.specs.ChainIndex.Laws.{ReadsAlike, AcceptsAlike, PlacesAlike, PublishesAlike, JudgedCanBeAdded}
use Rattle.ledger_views.specs.LedgerKept.Kept.{IsIndexOf, world_with}
use Rattle.ledger_dispatch.specs.DispatchSupport.{fault_in, judged_in, CanBeTaken, accepting_unless, EachIsJudgedAlike, with_places}

-- ---- transactions

moment_alike : ReadsAlike → (present : Contents) (w : World) → IsIndexOf present w → moment_at present w.replay.tick ≡ moment_of w
moment_alike reads present w h = ap (λ (c : Contents). moment_at c w.replay.tick) h.contents ∙ reads w.published (past_of w) w.replay.tick

tied_by : AcceptsAlike → AfterIsSound marlowe → (present : Contents) (w : World) (tx : Tx) → IsIndexOf present w → TxFits tx → (f : Option TxFault) → fault_on w tx ≡ f →
    IsIndexOf (accepting_unless present tx f) (with_accepted_unless w tx f)
tied_by alike after present w tx h fits None e = record {
  contents = ap (λ (c : Contents). accepting c tx) h.contents ∙ alike w.published (past_of w) w.replay.tick tx h.sound e;
  sound = after (published_at w.published) (past_of w) w.replay.tick tx h.sound e;
  fits = All-append TxFits w.replay.accepted (tx ∷ []) h.fits (All-cons TxFits tx [] fits (All-nil TxFits));
}
tied_by alike after present w tx h fits (Some f) e = h

pub judged_alike : ReadsAlike → AcceptsAlike → PlacesAlike → JudgedCanBeAdded marlowe → AfterIsSound marlowe → EachIsJudgedAlike
judged_alike reads alike places added after present w tx h = record {
  fault = ap (λ (m : Moment Published). judge marlowe m tx) (moment_alike reads present w h);
  can = λ e.
      subst (λ (c : Contents). CanBeTaken c w.replay.tick tx) (sym h.contents)
      (record { can = added (published_at w.published) w.published (past_of w) w.replay.tick tx e; places = places w.published (past_of w) w.replay.tick tx h.sound e });
  tied = λ fits. tied_by alike after present w tx h fits (fault_on w tx) refl;
}

-- what is judged without a fault can be added
pub can_be_taken : EachIsJudgedAlike → (present : Contents) (w : World) (tx : Tx) → IsIndexOf present w → fault_in present w.replay.tick tx ≡ None → CanBeTaken present w.replay.tick tx
can_be_taken law present w tx h none =
    let alike = law present w tx h in
    alike.can (sym alike.fault ∙ none)

pub can_so : (present : Contents) (tick : ℤ) (tx : Tx) (a : Judged) → a ≡ judged_in present tick tx → (fault_in present tick tx ≡ None → CanBeTaken present tick tx) → a.fault ≡ None → CanBeAdded present tx
can_so present tick tx a e taken none = (taken (sym (ap (λ (z : Judged). z.fault) e) ∙ none)).can

-- and goes on in the places that are answered
pub places_so : (present : Contents) (tick : ℤ) (tx : Tx) (a : Judged) → a ≡ judged_in present tick tx → (fault_in present tick tx ≡ None → CanBeTaken present tick tx) → a.fault ≡ None →
    a.places ≡ places_in (blocks_in present tx)
places_so present tick tx a e taken none =
    let f : fault_in present tick tx ≡ None = sym (ap (λ (z : Judged). z.fault) e) ∙ none in
    ap (λ (z : Judged). z.places) e ∙ ap (λ (z : Option TxFault). unless_refused z (places_of marlowe tx (found (moment_at present tick) tx))) f ∙ (taken f).places

pub tied_after : EachIsJudgedAlike → (present next : Contents) (w : World) (tx : Tx) → IsIndexOf present w → TxFits tx → next ≡ accepting_unless present tx (fault_in present w.replay.tick tx) →
    IsIndexOf next (with_accepted_unless w tx (fault_on w tx))
tied_after law present next w tx h fits n =
    let alike = law present w tx h in
    subst (λ (c : Contents). IsIndexOf c (with_accepted_unless w tx (fault_on w tx))) (sym (n ∙ ap (accepting_unless present tx) alike.fault)) (alike.tied fits)

-- ---- calls

-- a tick more or less is the same to an index
advanced_by : (present : Contents) (w : World) (t : ℤ) (b : Bool) → IsIndexOf present w →
    IsIndexOf present (let v : World = record w { replay = after_call w.replay (on.Advance t) (if b then answer.Advanced else answer.Backward) } in v)
advanced_by present w t true h = record { contents = h.contents; sound = h.sound; fits = h.fits }
advanced_by present w t false h = h

pub advanced : (present : Contents) (w : World) (t : ℤ) → IsIndexOf present w → IsIndexOf present (world_with w (on.Advance t))
advanced present w t h = advanced_by present w t (int_le w.replay.tick t) h

-- so is what waits
enqueued_by : (present : Contents) (w : World) (tx : Tx) (b : Bool) → IsIndexOf present w →
    IsIndexOf present (let v : World = record w { replay = after_call w.replay (on.Enqueue tx) (if b then answer.Ticket w.tickets else answer.Full) } in v)
enqueued_by present w tx true h = record { contents = h.contents; sound = h.sound; fits = h.fits }
enqueued_by present w tx false h = h

pub enqueued : (present : Contents) (w : World) (tx : Tx) → IsIndexOf present w → IsIndexOf present (world_with w (on.Enqueue tx))
enqueued present w tx h = enqueued_by present w tx (nat_lt (length w.replay.pending) most_pending) h

pub rounded : (present : Contents) (w : World) (k : ℕ) → IsIndexOf present (with_places w (round_verdicts w (take k w.replay.pending))) → IsIndexOf present (world_with w (on.Round k))
rounded present w k h = record { contents = h.contents; sound = h.sound; fits = h.fits }

submitted_by : (present : Contents) (w : World) (tx : Tx) (f : Option TxFault) → IsIndexOf present (with_accepted_unless w tx f) →
    IsIndexOf present (let v : World = record w { replay = after_call w.replay (on.Submit tx) (submit_reply tx f) } in v)
submitted_by present w tx None h = h
submitted_by present w tx (Some f) h = h

pub submitted : (present : Contents) (w : World) (tx : Tx) → IsIndexOf present (with_accepted_unless w tx (fault_on w tx)) → IsIndexOf present (world_with w (on.Submit tx))
submitted present w tx h = submitted_by present w tx (fault_on w tx) h

-- where more is published, it is of what is published then
pub published_more : LaterIsSound marlowe → PublishesAlike → (present next : Contents) (w : World) (r : Result Published CompileFault) → IsIndexOf present w →
    next ≡ record present { published = with_object present.published r } →
    IsIndexOf next (let v : World = record w { published = with_object w.published r } in v)
published_more later alike present next w r h n = record {
  contents = n ∙ ap (λ (c : Contents). let d : Contents = record c { published = with_object c.published r } in d) h.contents ∙ same r;
  sound = later (published_at w.published) (published_at (with_object w.published r)) (past_of w) (with_stays w.published r) h.sound;
  fits = h.fits;
}
  where
    same : (r : Result Published CompileFault) → (let d : Contents = record (contents_of (past_of w) w.published) { published = with_object w.published r } in d) ≡ contents_of (past_of w) (with_object w.published r)
    same (Err f) = refl
    same (Ok p) = by (published_at w.published p.id) refl
      where
        by : (o : Option Published) → published_at w.published p.id ≡ o →
            (let d : Contents = record (contents_of (past_of w) w.published) { published = if is_some o then w.published else w.published ++ p ∷ [] } in d) ≡ contents_of (past_of w) (if is_some o then w.published else w.published ++ p ∷ [])
        by (Some q) e = refl
        by None e = alike w.published (past_of w) p h.sound e
