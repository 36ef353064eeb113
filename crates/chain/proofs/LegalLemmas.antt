-- One more entry of a course.
use Rattle.std.proofs.Common.{◌≡◌, ℕ, zero, suc, Bool, true, false, List, [], ◌∷◌, ◌++◌, refl, sym, ◌∙◌, ap, subst, arith, Option, Some, None, inl, inr, take, length, All, Result, Ok, Err}
use Rattle.std.specs.Prelude.{if◌then◌else◌, is_some}
use Rattle.std.specs.List.{slice_get}
use Rattle.std.proofs.Math.Seq.{take-append_seam}
use Rattle.std.proofs.lemmas.List.Elements.{All-take}
use Rattle.ledger_views.specs.Compiler.declared.fault.CompileFault.{CompileFault}
use Rattle.ledger_views.specs.EutxoTypes.declared.tx.Tx.{Tx}
use Rattle.ledger_views.specs.EutxoTypes.Fitting.{TxFits}
use Rattle.ledger_views.specs.Roles.declared.published.Published.{Published}
use Rattle.ledger_views.specs.Roles.Steps.{marlowe}
use Rattle.ledger_views.specs.LedgerLaws.Laws.{StartIsSound, AfterIsSound, LaterIsSound}
use Rattle.ledger_views.specs.LedgerLaws.Sound.{AreKeys, IsSound, IsMore}
use Rattle.ledger_views.proofs.FromLedgerLaws.PlainLaws.{get_grown, take_none, take_some, take_whole}
use Rattle.ledger_views.specs.Ledger.declared.call.Call.{Call}
use Rattle.ledger_views.specs.Ledger.declared.call.Call.TheVariants as on
use Rattle.ledger_views.specs.Ledger.declared.call.Reply.{Reply}
use Rattle.ledger_views.specs.Ledger.declared.call.Reply.TheVariants as answer
use Rattle.ledger_views.specs.Ledger.declared.call.Entry.{Entry}
use Rattle.ledger_views.specs.LedgerSpec.Replay.{Replay, World, Course, after_call, count_of, world, past_of, published_at, publication, with_object, published_after, published}
use Rattle.ledger_views.specs.Ledger.Replies.{is_published}
use Rattle.ledger_views.specs.LedgerSpec.Calls.{same_publication, publish_reply_beside, publish_reply, reply_to, published_with}
use Rattle.ledger_views.specs.LedgerSpec.Genesis.{SumsFit}
use Rattle.ledger_views.specs.LedgerSpec.Legal.{Follows, IsLegal, before_entry, with_entry, entry_of}
use Rattle.ledger_views.specs.ChainIndex.Contents.{Contents, Indexed, contents_of, beginning}
use Rattle.ledger_views.specs.LedgerKept.Kept.{Tally, IsTally, IsIndexOf, world_with}
use Rattle.chain.specs.ChainSupport.{IsKept}
use Rattle.ledger_views.proofs.FromLedgerSpec.CallsLaws.{accepted_before}
use Rattle.ledger_views.proofs.FromLedgerSpec.ReplayLaws.{replay_after}
use Rattle.ledger_views.proofs.FromLedgerSpec.PublishingLaws.{with_stays, published_two}
use Rattle.chain.proofs.SoundLemmas.{course_so}

-- what is published by the reply of the table
new_if : (w : World) (p : Published) (known : Option Published) → published_at w.published p.id ≡ known →
    (if is_published (publish_reply_beside p known) then with_object w.published (Ok p) else w.published) ≡ with_object w.published (Ok p)
new_if w p None h = refl
new_if w p (Some k) h = by (same_publication k p)
  where
    by : (b : Bool) → (let r : Reply = if b then answer.Published p.id else answer.IdInUse in if is_published r then with_object w.published (Ok p) else w.published) ≡ with_object w.published (Ok p)
    by true = refl
    by false = sym (ap (λ (o : Option Published). if is_some o then w.published else w.published ++ p ∷ []) h)

new_of : (w : World) (r : Result Published CompileFault) → (if is_published (publish_reply w r) then with_object w.published r else w.published) ≡ with_object w.published r
new_of w (Ok p) = new_if w p (published_at w.published p.id) refl
new_of w (Err f) = refl

new_is : (w : World) (call : Call) → published_after w.published call (reply_to w call) ≡ published_with w.published call
new_is w (on.Publish contract currency) = new_of w (publication contract currency)
new_is w (on.Advance t) = refl
new_is w (on.Look ask) = refl
new_is w (on.Submit tx) = refl
new_is w (on.Enqueue tx) = refl
new_is w (on.Round k) = refl

-- what is published after one call more
pub published_after_one : (c : Course) (seat : ℕ) (call : Call) → published (with_entry c (entry_of c seat call)).entries ≡ published_with (published c.entries) call
published_after_one c seat call = published_two [] c.entries (entry_of c seat call ∷ []) ∙ new_is (world c) call

call_is_more : (ps : List Published) (call : Call) → IsMore (published_at ps) (published_at (published_with ps call))
call_is_more ps (on.Publish contract currency) = with_stays ps (publication contract currency)
call_is_more ps (on.Advance t) = λ script v h. h
call_is_more ps (on.Look ask) = λ script v h. h
call_is_more ps (on.Submit tx) = λ script v h. h
call_is_more ps (on.Enqueue tx) = λ script v h. h
call_is_more ps (on.Round k) = λ script v h. h

-- what was published stays published
pub stays_published : (c : Course) (seat : ℕ) (call : Call) → IsMore (published_at (published c.entries)) (published_at (published (with_entry c (entry_of c seat call)).entries))
stays_published c seat call = subst (λ (l : List Published). IsMore (published_at (published c.entries)) (published_at l)) (sym (published_after_one c seat call)) (call_is_more (published c.entries) call)

legal_more : (c : Course) (seat : ℕ) (call : Call) → IsLegal c → IsLegal (with_entry c (entry_of c seat call))
legal_more c seat call legal n e h =
    elim (get_grown c.entries (entry_of c seat call) n e h) [
      | inl p ↦ subst (λ (l : List Entry). Follows (record c { entries = l }) e) (sym p.1) (legal n e p.0)
      | inr p ↦ subst (λ (l : List Entry). Follows (record c { entries = l }) e) (sym p.1) (subst (λ (x : Entry). Follows c x) p.0 (record { number = refl; reply = refl }))
    ]

-- an index of what stands after a call is one of what stands after its entry
pub index_more : (p : Contents) (c : Course) (seat : ℕ) (call : Call) → IsIndexOf p (world_with (world c) call) → IsIndexOf p (world (with_entry c (entry_of c seat call)))
index_more p c seat call h =
    let d = with_entry c (entry_of c seat call) in
    let grown : after_call (world c).replay call (reply_to (world c) call) ≡ (world d).replay = sym (replay_after (record { tick = c.first_tick; accepted = []; pending = [] }) c.entries (entry_of c seat call)) in
    let all : published_with (published c.entries) call ≡ published d.entries = sym (published_after_one c seat call) in
    record {
      contents =
          subst (λ (s : Replay). p ≡ contents_of (record { genesis = c.genesis; accepted = s.accepted }) (published d.entries)) grown
          (subst (λ (l : List Published). p ≡ contents_of (past_of (world_with (world c) call)) l) all h.contents);
      sound =
          subst (λ (s : Replay). IsSound marlowe (published_at (published d.entries)) (record { genesis = c.genesis; accepted = s.accepted })) grown
          (subst (λ (l : List Published). IsSound marlowe (published_at l) (past_of (world_with (world c) call))) all h.sound);
      fits = subst (λ (s : Replay). All TxFits s.accepted) grown h.fits;
    }

-- what is kept after one entry more, which is settled
pub kept_more : (t : Tally) (index : Indexed) (c : Course) (seat : ℕ) (call : Call) → IsTally t (with_entry c (entry_of c seat call)) → IsIndexOf index.present (world_with (world c) call) → index.settled ≡ index.present →
    IsLegal c → SumsFit c.genesis → IsKept t index (with_entry c (entry_of c seat call))
kept_more t index c seat call tally present settled legal sums =
    record { tally = tally; present = index_more index.present c seat call present; settled = settled; legal = legal_more c seat call legal; sums = sums }

-- after a cut all is as it was, with a tally of the same history
pub kept_cut : (old t : Tally) (index grown cut : Indexed) (c : Course) → IsKept old index c → IsTally t c → grown.settled ≡ index.settled → cut ≡ record grown { present = grown.settled } → IsKept t cut c
kept_cut old t index grown cut c kept tally same back =
    let present : cut.present ≡ index.present = ap (λ (x : Indexed). x.present) back ∙ same ∙ kept.settled in
    record {
      tally = tally;
      present = subst (λ (p : Contents). IsIndexOf p (world c)) (sym present) kept.present;
      settled = ap (λ (x : Indexed). x.settled) back ∙ same ∙ kept.settled ∙ sym present;
      legal = kept.legal;
      sums = kept.sums;
    }

-- the entry that was made of a call is the one of its reply
pub made_entry : (c : Course) (seat number : ℕ) (call : Call) (reply : Reply) → number ≡ count_of seat c.entries → reply ≡ reply_to (world c) call →
    (let e : Entry = record { seat = seat; number = number; call = call; reply = reply } in e) ≡ entry_of c seat call
made_entry c seat number call reply n r = λ i. record { seat = seat; number = n i; call = call; reply = r i }

-- after an entry more, once it is settled
pub kept_settled : (t : Tally) (grown index : Indexed) (c : Course) (seat number : ℕ) (call : Call) (reply : Reply) (entries : List Entry) → number ≡ count_of seat c.entries → reply ≡ reply_to (world c) call →
    entries ≡ c.entries ++ (let e : Entry = record { seat = seat; number = number; call = call; reply = reply } in e) ∷ [] →
    IsTally t (with_entry c (record { seat = seat; number = number; call = call; reply = reply })) → IsIndexOf grown.present (world_with (world c) call) → index ≡ record grown { settled = grown.present } →
    IsLegal c → SumsFit c.genesis → IsKept t index (record c { entries = entries })
kept_settled t grown index c seat number call reply entries n r es tally present now legal sums =
    let made = made_entry c seat number call reply n r in
    let here : index.present ≡ grown.present = ap (λ (x : Indexed). x.present) now in
    subst (λ (l : List Entry). IsKept t index (record c { entries = l })) (sym (es ∙ ap (λ (e : Entry). c.entries ++ e ∷ []) made))
    (kept_more t index c seat call (subst (λ (e : Entry). IsTally t (with_entry c e)) made tally) (subst (λ (p : Contents). IsIndexOf p (world_with (world c) call)) (sym here) present)
    (ap (λ (x : Indexed). x.settled) now ∙ sym here) legal sums)

pub kept_start : StartIsSound marlowe → (t : Tally) (index : Indexed) (c : Course) → c.entries ≡ [] → IsTally t c → index ≡ beginning c.genesis → AreKeys c.genesis → SumsFit c.genesis → IsKept t index c
kept_start law t index c none tally begun keys sums =
    let whole : record c { entries = [] } ≡ c = λ i. record c { entries = sym none i } in
    record {
      tally = tally;
      present =
          subst (λ (d : Course). IsIndexOf index.present (world d)) whole
          (record { contents = ap (λ (x : Indexed). x.present) begun; sound = law (published_at []) c.genesis keys; fits = λ n tx h. absurd (omega arith) });
      settled = ap (λ (x : Indexed). x.settled) begun ∙ sym (ap (λ (x : Indexed). x.present) begun);
      legal = subst (λ (d : Course). IsLegal d) whole (λ n e h. cc);
      sums = sums;
    }

pub same_entry : (a b : Entry) → a.seat ≡ b.seat → a.number ≡ b.number → a.call ≡ b.call → a.reply ≡ b.reply → a ≡ b
same_entry a b p q r s = λ i. record { seat = p i; number = q i; call = r i; reply = s i }

-- ---- a legal course is sound

-- a course with these entries is sound
abbrev SoundAfter : Course → List Entry → Type 0
SoundAfter c l = IsSound marlowe (published_at (published l)) (past_of (world (record c { entries = l })))

-- from one entry to the next
sound_next : AfterIsSound marlowe → LaterIsSound marlowe → (c : Course) → IsLegal c → (n : ℕ) → SoundAfter c (take n c.entries) → (o : Option Entry) → slice_get c.entries n ≡ o → SoundAfter c (take (suc n) c.entries)
sound_next after later c legal n before None at = subst (λ (l : List Entry). SoundAfter c l) (sym (take_none n c.entries at)) before
sound_next after later c legal n before (Some e) at =
    let d = before_entry c n in
    let f = legal n e at in
    let is : entry_of d e.seat e.call ≡ e = same_entry (entry_of d e.seat e.call) e refl (sym f.number) refl (sym f.reply) in
    let next = course_so after later d (published (with_entry d (entry_of d e.seat e.call)).entries) before e.seat e.call (published_after_one d e.seat e.call) in
    subst (λ (l : List Entry). SoundAfter c l) (sym (take_some n c.entries e at)) (subst (λ (x : Entry). SoundAfter c (take n c.entries ++ x ∷ [])) is next)

pub sound_at : StartIsSound marlowe → AfterIsSound marlowe → LaterIsSound marlowe → (c : Course) → AreKeys c.genesis → IsLegal c → (n : ℕ) → SoundAfter c (take n c.entries)
sound_at start after later c keys legal zero = start (published_at []) c.genesis keys
sound_at start after later c keys legal (suc n) = sound_next after later c legal n (sound_at start after later c keys legal n) (slice_get c.entries n) refl

-- where it began with key outputs
pub legal_sound : StartIsSound marlowe → AfterIsSound marlowe → LaterIsSound marlowe → (c : Course) → AreKeys c.genesis → IsLegal c → IsSound marlowe (published_at (published c.entries)) (past_of (world c))
legal_sound start after later c keys legal = subst (λ (l : List Entry). SoundAfter c l) (take_whole c.entries) (sound_at start after later c keys legal (length c.entries))

-- what was accepted before an entry fits where all does
fits_front : (xs ys : List Tx) → All TxFits (xs ++ ys) → All TxFits xs
fits_front xs ys h = subst (λ (l : List Tx). All TxFits l) (take-append_seam xs ys) (All-take TxFits (length xs) (xs ++ ys) h)

pub fits_before : (c : Course) (n : ℕ) → All TxFits (past_of (world c)).accepted → All TxFits (past_of (world (before_entry c n))).accepted
fits_before c n h =
    let m = accepted_before c n in
    fits_front (world (before_entry c n)).replay.accepted m.0 (subst (λ (l : List Tx). All TxFits l) m.1 h)
