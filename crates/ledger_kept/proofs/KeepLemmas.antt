-- One entry more of a history, and of its tally.
use Rattle.std.proofs.Common.{◌≡◌, ℕ, zero, suc, ◌+◌, ◌≤◌, Bool, true, false, List, [], ◌∷◌, ◌++◌, map, drop, length, refl, sym, ◌∙◌, ap, subst, arith, Option, Some, None, Result, Ok, Err}
use Rattle.std.specs.Prelude.{if◌then◌else◌, nat_eq, OnErr}
use Rattle.std.proofs.lemmas.List.{map-append, drop-map}
use Rattle.std.proofs.lemmas.List.Sums.{sum_by-append, count_by-le-length}
use Rattle.chain_index.specs.EutxoTypes.declared.tx.Tx.{Tx}
use Rattle.chain_index.specs.Ledger.declared.call.Call.{Call}
use Rattle.chain_index.specs.Ledger.declared.call.Call.TheVariants as on
use Rattle.chain_index.specs.Ledger.declared.call.Entry.{Entry}
use Rattle.chain_index.specs.Ledger.declared.call.Reply.{Reply}
use Rattle.chain_index.specs.Ledger.declared.call.Ticketed.{Ticketed}
use Rattle.chain_index.specs.Ledger.Replies.{is_advanced, is_accepted, ticket_in, verdicts_in, accepts}
use Rattle.chain_index.specs.LedgerSpec.Legal.{with_entry}
use Rattle.chain_index.specs.LedgerSpec.Replay.{Pending, Replay, Course, pending_entry, accepted_among, with_pending, after_call, gives_ticket, tickets, count_of, world}
use Rattle.chain_index.proofs.FromLedgerSpec.ReplayLaws.{replay_after}
use Rattle.ledger_kept.specs.declared.tally.Waiting.{Waiting}
use Rattle.ledger_kept.specs.Kept.{text_in, text_at, Tally, counted, with_text, pending_text, IsTally}
use Rattle.ledger_kept.specs.TallySupport.{entries_among, waiting_at, with_waiting, tally_after, tickets_with, IsCounted}

abbrev pub there : Tx → Option Tx
there tx = Some tx

-- what waits, by the texts of these entries
abbrev pub AreWaiting : List Entry → List Waiting → List Pending → Type 0
AreWaiting es ws ps = map (with_text es) ws ≡ map pending_text ps

-- these places have these texts
abbrev pub AreTexts : List Entry → List ℕ → List Tx → Type 0
AreTexts es ns txs = map (text_at es) ns ≡ map there txs

pub same_head : {A : Type 0} (x y : A) (xs ys : List A) → x ∷ xs ≡ y ∷ ys → x ≡ y
same_head x y xs ys h = cc

pub same_tail : {A : Type 0} (x y : A) (xs ys : List A) → x ∷ xs ≡ y ∷ ys → xs ≡ ys
same_tail x y xs ys h = cc

-- ---- texts

-- what stands in an entry stays
text_more : (es : List Entry) (e : Entry) (n : ℕ) (tx : Tx) → text_at es n ≡ Some tx → text_at (es ++ e ∷ []) n ≡ Some tx
text_more [] e n tx h = cc
text_more (x ∷ es) e zero tx h = h
text_more (x ∷ es) e (suc n) tx h = text_more es e n tx h

text_last : (es : List Entry) (e : Entry) → text_at (es ++ e ∷ []) (length es) ≡ text_in e.call
text_last [] e = refl
text_last (x ∷ es) e = text_last es e

pending_more : (es : List Entry) (e : Entry) (ws : List Waiting) (ps : List Pending) → AreWaiting es ws ps → AreWaiting (es ++ e ∷ []) ws ps
pending_more es e [] ps h = h
pending_more es e (w ∷ ws) [] h = cc
pending_more es e (w ∷ ws) (p ∷ ps) h =
    let at = same_head (with_text es w) (pending_text p) (map (with_text es) ws) (map pending_text ps) h in
    let rest = pending_more es e ws ps (same_tail (with_text es w) (pending_text p) (map (with_text es) ws) (map pending_text ps) h) in
    let tx = text_more es e w.entry p.1 (λ i. (at i).1) in
    λ i. ((at i).0, tx i) ∷ rest i

places_more : (es : List Entry) (e : Entry) (ns : List ℕ) (txs : List Tx) → AreTexts es ns txs → AreTexts (es ++ e ∷ []) ns txs
places_more es e [] txs h = h
places_more es e (n ∷ ns) [] h = cc
places_more es e (n ∷ ns) (tx ∷ txs) h =
    let at = text_more es e n tx (same_head (text_at es n) (Some tx) (map (text_at es) ns) (map there txs) h) in
    let rest = places_more es e ns txs (same_tail (text_at es n) (Some tx) (map (text_at es) ns) (map there txs) h) in
    λ i. at i ∷ rest i

-- what a round accepts
among_alike : (es : List Entry) (ws : List Waiting) (ps : List Pending) (vs : List Ticketed) → AreWaiting es ws ps → AreTexts es (entries_among ws vs) (accepted_among ps vs)
among_alike es [] [] vs h = refl
among_alike es [] (p ∷ ps) vs h = cc
among_alike es (w ∷ ws) [] vs h = cc
among_alike es (w ∷ ws) (p ∷ ps) [] h = refl
among_alike es (w ∷ ws) (p ∷ ps) (v ∷ vs) h =
    by (accepts v.verdict)
    (λ i. (same_head (with_text es w) (pending_text p) (map (with_text es) ws) (map pending_text ps) h i).1)
    (among_alike es ws ps vs (same_tail (with_text es w) (pending_text p) (map (with_text es) ws) (map pending_text ps) h))
  where
    by : (b : Bool) → text_at es w.entry ≡ Some p.1 → AreTexts es (entries_among ws vs) (accepted_among ps vs) →
        AreTexts es ((if b then w.entry ∷ [] else []) ++ entries_among ws vs) ((if b then p.1 ∷ [] else []) ++ accepted_among ps vs)
    by true at rest = λ i. at i ∷ rest i
    by false at rest = rest

drop_alike : {A B C : Type 0} (f : A → C) (g : B → C) (k : ℕ) (xs : List A) (ys : List B) → map f xs ≡ map g ys → map f (drop k xs) ≡ map g (drop k ys)
drop_alike f g k xs ys h = sym (drop-map f k xs) ∙ ap (drop k) h ∙ drop-map g k ys

-- where lists are alike, so are they with more that is alike
more_alike : {A B C : Type 0} (f : A → C) (g : B → C) (xs ms : List A) (ys ns : List B) → map f xs ≡ map g ys → map f ms ≡ map g ns → map f (xs ++ ms) ≡ map g (ys ++ ns)
more_alike f g xs ms ys ns h k = map-append f xs ms ∙ (λ i. h i ++ k i) ∙ sym (map-append g ys ns)

-- ---- a call

-- the tick, what is pending and what was accepted, by the texts of these entries
record Agrees (t : Tally) (es : List Entry) (s : Replay) : Type 0 where
  tick : t.tick ≡ s.tick
  pending : AreWaiting es t.pending s.pending
  places : AreTexts es t.places s.accepted

after : (t : Tally) (es : List Entry) (s : Replay) (n : ℕ) (call : Call) (r : Reply) → Agrees t es s → text_at es n ≡ text_in call → Agrees (tally_after t n call r) es (after_call s call r)
after t es s n (on.Publish contract currency) r a text = a
after t es s n (on.Advance tick) r a text = by (is_advanced r)
  where
    by : (b : Bool) → Agrees (if b then record t { tick = tick } else t) es (if b then record s { tick = tick } else s)
    by true = record { tick = refl; pending = a.pending; places = a.places }
    by false = a
after t es s n (on.Look ask) r a text = a
after t es s n (on.Submit tx) r a text = by (is_accepted r)
  where
    by : (b : Bool) → Agrees (if b then record t { places = t.places ++ n ∷ [] } else t) es (if b then record s { accepted = s.accepted ++ tx ∷ [] } else s)
    by true = record { tick = a.tick; pending = a.pending; places = more_alike (text_at es) there t.places (n ∷ []) s.accepted (tx ∷ []) a.places (λ i. text i ∷ []) }
    by false = a
after t es s n (on.Enqueue tx) r a text = by (ticket_in r)
  where
    by : (o : Option ℕ) → Agrees (with_waiting t n o) es (with_pending s tx o)
    by None = a
    by (Some k) = record {
      tick = a.tick;
      pending = more_alike (with_text es) pending_text t.pending (waiting_at n k ∷ []) s.pending (pending_entry k tx ∷ []) a.pending (λ i. (k, text i) ∷ []);
      places = a.places;
    }
after t es s n (on.Round k) r a text =
    let vs = verdicts_in r in
    record {
      tick = a.tick;
      pending = drop_alike (with_text es) pending_text k t.pending s.pending a.pending;
      places = more_alike (text_at es) there t.places (entries_among t.pending vs) s.accepted (accepted_among s.pending vs) a.places (among_alike es t.pending s.pending vs a.pending);
    }

-- ---- what is counted

tickets_more : (es : List Entry) (e : Entry) → tickets (es ++ e ∷ []) ≡ tickets_with (tickets es) e.reply
unfolding gives_ticket
tickets_more es e = sum_by-append (λ x. if gives_ticket x then 1 else 0) es (e ∷ []) ∙ omega arith

count_more : (seat : ℕ) (es : List Entry) (e : Entry) → count_of seat (es ++ e ∷ []) ≡ count_of seat es + (if nat_eq e.seat seat then 1 else 0)
count_more seat es e = sum_by-append (λ x. if nat_eq x.seat seat then 1 else 0) es (e ∷ []) ∙ omega arith

-- tickets and counts stay
uncounted : (t : Tally) (n : ℕ) (call : Call) (r : Reply) → ((tally_after t n call r).tickets ≡ t.tickets) × ((tally_after t n call r).counts ≡ t.counts)
uncounted t n (on.Publish contract currency) r = (refl, refl)
uncounted t n (on.Advance tick) r = by (is_advanced r)
  where
    by : (b : Bool) → ((if b then record t { tick = tick } else t).tickets ≡ t.tickets) × ((if b then record t { tick = tick } else t).counts ≡ t.counts)
    by true = (refl, refl)
    by false = (refl, refl)
uncounted t n (on.Look ask) r = (refl, refl)
uncounted t n (on.Submit tx) r = by (is_accepted r)
  where
    by : (b : Bool) → ((if b then record t { places = t.places ++ n ∷ [] } else t).tickets ≡ t.tickets) × ((if b then record t { places = t.places ++ n ∷ [] } else t).counts ≡ t.counts)
    by true = (refl, refl)
    by false = (refl, refl)
uncounted t n (on.Enqueue tx) r = by (ticket_in r)
  where
    by : (o : Option ℕ) → ((with_waiting t n o).tickets ≡ t.tickets) × ((with_waiting t n o).counts ≡ t.counts)
    by None = (refl, refl)
    by (Some k) = (refl, refl)
uncounted t n (on.Round k) r = (refl, refl)

pub kept_counts : (t : Tally) (n : ℕ) (call : Call) (r : Reply) → (tally_after t n call r).counts ≡ t.counts
kept_counts t n call r = (uncounted t n call r).1

-- ---- an entry

pub on_err : {T E P : Type 0} (r : Result T E) → P → OnErr r P
on_err (Ok x) p = tt
on_err (Err x) p = p

-- with other counts, of which each seat's is the same
pub counts_alike : (old t : Tally) (cs : List (ℕ × ℕ)) → t ≡ old → ((seat : ℕ) → counted cs seat ≡ counted t.counts seat) → (c : Course) → IsTally old c → IsTally (record t { counts = cs }) c
counts_alike old t cs e same c is = let of : IsTally t c = subst (λ (x : Tally). IsTally x c) (sym e) is in record {
  tick = of.tick;
  tickets = of.tickets;
  pending = of.pending;
  places = of.places;
  counts = λ seat. same seat ∙ of.counts seat;
}

-- no count is above the number of entries
pub tickets_fit : (t : Tally) (c : Course) (n : ℕ) (call : Call) (r : Reply) → length c.entries ≡ n → IsTally t c → (tally_after t n call r).tickets ≤ n
tickets_fit t c n call r l is = omega (arith, (uncounted t n call r).0, is.tickets, count_by-le-length gives_ticket c.entries, l)

pub counts_fit : (t : Tally) (c : Course) (n seat : ℕ) (call : Call) (r : Reply) → length c.entries ≡ n → IsTally t c → counted (tally_after t n call r).counts seat ≤ n
counts_fit t c n seat call r l is =
    omega (arith, ap (λ cs. counted cs seat) (kept_counts t n call r), is.counts seat, count_by-le-length (λ (x : Entry). nat_eq x.seat seat) c.entries, l)

pub kept : (t new : Tally) (c : Course) (n : ℕ) (e : Entry) → length c.entries ≡ n → IsTally t c → IsCounted (tally_after t n e.call e.reply) e new → IsTally new (with_entry c e)
kept t new c n e l is counted_so =
    let es = c.entries ++ e ∷ [] in
    let now = tally_after t n e.call e.reply in
    let s = (world c).replay in
    let more = replay_after (record { tick = c.first_tick; accepted = []; pending = [] }) c.entries e in
    let old : Agrees t es s = record { tick = is.tick; pending = pending_more c.entries e t.pending s.pending is.pending; places = places_more c.entries e t.places s.accepted is.places } in
    let text : text_at es n ≡ text_in e.call = ap (text_at es) (sym l) ∙ text_last c.entries e in
    let a = after t es s n e.call e.reply old text in
    record {
      tick = counted_so.tick ∙ a.tick ∙ ap (λ (x : Replay). x.tick) (sym more);
      tickets = counted_so.tickets ∙ ap (λ k. tickets_with k e.reply) ((uncounted t n e.call e.reply).0 ∙ is.tickets) ∙ sym (tickets_more c.entries e);
      pending = ap (map (with_text es)) counted_so.pending ∙ a.pending ∙ ap (λ (x : Replay). map pending_text x.pending) (sym more);
      places = ap (map (text_at es)) counted_so.places ∙ a.places ∙ ap (λ (x : Replay). map there x.accepted) (sym more);
      counts = λ seat.
          counted_so.counts seat
          ∙ ap (λ k. k + (if nat_eq e.seat seat then 1 else 0)) (ap (λ cs. counted cs seat) (kept_counts t n e.call e.reply) ∙ is.counts seat)
          ∙ sym (count_more seat c.entries e);
    }
