-- What stands after a legal history, in the words of its entries.
use Rattle.std.proofs.Common.{◌≡◌, ℕ, zero, suc, ◌+◌, ◌<◌, ℤ, Bool, true, false, cond, not, ◌||◌, ◌==◌, List, [], ◌∷◌, ◌++◌, refl, sym, ◌∙◌, ap, subst, arith, append_assoc, Option, Some, None, take, drop, length, Result, Ok, Err, eqb-true, eq-eqb, length-append}
use Rattle.std.specs.Prelude.{if◌then◌else◌, is_some, filter, int_le, nat_lt}
use Rattle.std.specs.List.{slice_get, list_any, filter_map, flat_map, cons_option}
use Rattle.std.proofs.lemmas.Grind.{flat_map-append}
use Rattle.std.proofs.lemmas.List.{take-append-drop}
use Rattle.std.proofs.lemmas.List.Elements.{filter-append, filter_map-append}
use Rattle.std.proofs.lemmas.List.Folds.{list_any-append}
use Rattle.std.proofs.lemmas.List.Sums.{sum_by-append}
use Rattle.std.proofs.lemmas.Option.{slice_get_within}
use Rattle.builder_spec.specs.Compiler.declared.fault.CompileFault.{CompileFault}
use Rattle.builder_spec.specs.EutxoTypes.declared.fault.TxFault.{TxFault}
use Rattle.builder_spec.specs.EutxoTypes.declared.tx.Tx.{Tx}
use Rattle.builder_spec.specs.EutxoTypes.Ids.{id_of}
use Rattle.builder_spec.specs.Eutxo.Local.{verdict_of}
use Rattle.builder_spec.specs.Roles.declared.published.Published.{Published}
use Rattle.builder_spec.specs.Ledger.declared.call.Call.{Call}
use Rattle.builder_spec.specs.Ledger.declared.call.Call.TheVariants as on
use Rattle.builder_spec.specs.Ledger.declared.call.Entry.{Entry}
use Rattle.builder_spec.specs.Ledger.declared.call.Reply.{Reply}
use Rattle.builder_spec.specs.Ledger.declared.call.Reply.TheVariants as answer
use Rattle.builder_spec.specs.Ledger.declared.call.Ticketed.{Ticketed}
use Rattle.builder_spec.specs.Ledger.Replies.{is_accepted, ticket_in, verdicts_in, accepts}
use Rattle.ledger_laws.proofs.PlainLaws.{same_some, take_none, take_some, take_whole, taken_at, any_at, any_there, no_more}
use Rattle.ledger_spec.specs.Replay.{Course, Pending, Replay, World, pending_entry, with_pending, after_call, accepted_among, replay_from, gives_ticket, tickets, published_at, publication, world}
use Rattle.ledger_spec.specs.Views.{look}
use Rattle.ledger_spec.specs.Calls.{most_pending, same_publication, publish_reply_beside, publish_reply, fault_on, submit_reply, with_accepted_unless, round_verdicts, reply_to}
use Rattle.ledger_spec.specs.Legal.{IsLegal, before_entry, with_entry}
use Rattle.ledger_spec.specs.Standing.{advanced_by, advances, last_of, enqueued_by, enqueued, is_taken, of_ticket, accepted_in, accepted_by, LegalHistoriesStand}
use Rattle.ledger_spec.proofs.CallsLaws.{after_advance, after_enqueue, only_first}
use Rattle.ledger_spec.proofs.ReplayLaws.{replay_after}

-- ---- the tick

waiting_tick : (s : Replay) (tx : Tx) (o : Option ℕ) → (with_pending s tx o).tick ≡ s.tick
waiting_tick s tx None = refl
waiting_tick s tx (Some n) = refl

submitted_tick : (s : Replay) (tx : Tx) (b : Bool) → (if b then record s { accepted = s.accepted ++ tx ∷ [] } else s).tick ≡ s.tick
submitted_tick s tx true = refl
submitted_tick s tx false = refl

-- the last tick, where one call comes before those that advance to these
tick_one : (s : Replay) (call : Call) (r : Reply) (ts : List ℤ) → last_of (after_call s call r).tick ts ≡ last_of s.tick (cons_option (advanced_by call r) ts)
tick_one s (on.Publish contract currency) r ts = refl
tick_one s (on.Advance t) answer.Advanced ts = refl
tick_one s (on.Advance t) r ts = refl
tick_one s (on.Look ask) r ts = refl
tick_one s (on.Submit tx) r ts = ap (λ (t : ℤ). last_of t ts) (submitted_tick s tx (is_accepted r))
tick_one s (on.Enqueue tx) r ts = ap (λ (t : ℤ). last_of t ts) (waiting_tick s tx (ticket_in r))
tick_one s (on.Round k) r ts = refl

tick_after : (s : Replay) (es : List Entry) → (replay_from s es).tick ≡ last_of s.tick (advances es)
tick_after s [] = refl
tick_after s (e ∷ es) = tick_after (after_call s e.call e.reply) es ∙ tick_one s e.call e.reply (advances es)

-- ---- plain facts about lists

-- the element stands somewhere in the list
abbrev Among : {A : Type 0} → List A → A → Type 0
Among xs x = (k : ℕ) × (slice_get xs k ≡ Some x)

among_left : {A : Type 0} (xs ys : List A) (x : A) → Among xs x → Among (xs ++ ys) x
among_left xs ys x h = (h.0, go xs h.0 h.1)
  where
    go : (zs : List _) (k : ℕ) → slice_get zs k ≡ Some x → slice_get (zs ++ ys) k ≡ Some x
    go [] k at = cc
    go (z ∷ zs) zero at = at
    go (z ∷ zs) (suc k) at = go zs k at

among_right : {A : Type 0} (xs ys : List A) (x : A) → Among ys x → Among (xs ++ ys) x
among_right [] ys x h = h
among_right (z ∷ xs) ys x h = let p = among_right xs ys x h in (suc p.0, p.1)

none_kept : {A : Type 0} (test : A → Bool) (xs : List A) → ((i : ℕ) (x : A) → slice_get xs i ≡ Some x → test x ≡ false) → filter test xs ≡ []
none_kept test [] h = refl
none_kept test (x ∷ xs) h =
    ap (λ (b : Bool). if b then x ∷ filter test xs else filter test xs) (h 0 x refl)
    ∙ none_kept test xs (λ i y at. h (suc i) y at)

all_kept : {A : Type 0} (test : A → Bool) (xs : List A) → ((i : ℕ) (x : A) → slice_get xs i ≡ Some x → test x ≡ true) → filter test xs ≡ xs
all_kept test [] h = refl
all_kept test (x ∷ xs) h =
    ap (λ (b : Bool). if b then x ∷ filter test xs else filter test xs) (h 0 x refl)
    ∙ ap (λ (l : List _). x ∷ l) (all_kept test xs (λ i y at. h (suc i) y at))

or_none : (b : Bool) → (b || false) ≡ b
or_none true = refl
or_none false = refl

plus_none : (n : ℕ) → n ≡ n + 0
plus_none n = omega arith

none_plus : (n : ℕ) → n ≡ 0 + n
none_plus n = omega arith

plus_next : (n m : ℕ) → n + suc m ≡ suc n + m
plus_next n m = omega arith

differ : (a b : ℕ) → (a ≡ b → ⊥) → (a == b) ≡ false
differ a b h = by (a == b) refl
  where
    by : (t : Bool) → (a == b) ≡ t → t ≡ false
    by true e = absurd (h (eqb-true a b e))
    by false e = refl

-- ---- tickets

-- their tickets are the numbers from n on, in order
abbrev Numbered : ℕ → List Pending → Type 0
Numbered n [] = Unit {0}
Numbered n (p ∷ ps) = (p.0 ≡ n) × Numbered (suc n) ps

number_at : (n : ℕ) (ps : List Pending) (i : ℕ) (p : Pending) → Numbered n ps → slice_get ps i ≡ Some p → p.0 ≡ n + i
number_at n [] i p h at = cc
number_at n (q ∷ ps) zero p h at = let e : q ≡ p = same_some q p at in ap (λ (x : Pending). x.0) (sym e) ∙ h.0 ∙ plus_none n
number_at n (q ∷ ps) (suc i) p h at = number_at (suc n) ps i p h.1 at ∙ sym (plus_next n i)

numbered_more : (n : ℕ) (ps qs : List Pending) → Numbered n ps → Numbered (n + length ps) qs → Numbered n (ps ++ qs)
numbered_more n [] qs h k = subst (λ (m : ℕ). Numbered m qs) (sym (plus_none n)) k
numbered_more n (p ∷ ps) qs h k = (h.0, numbered_more (suc n) ps qs h.1 (subst (λ (m : ℕ). Numbered m qs) (plus_next n (length ps)) k))

numbered_parts : (n : ℕ) (ps qs : List Pending) → Numbered n (ps ++ qs) → Numbered n ps × Numbered (n + length ps) qs
numbered_parts n [] qs h = (tt, subst (λ (m : ℕ). Numbered m qs) (plus_none n) h)
numbered_parts n (p ∷ ps) qs h =
    let k = numbered_parts (suc n) ps qs h.1 in
    ((h.0, k.0), subst (λ (m : ℕ). Numbered m qs) (sym (plus_next n (length ps))) k.1)

-- of these, the transactions that have a ticket
abbrev with_ticket : ℕ → List Pending → List Tx
with_ticket t ps = filter_map (λ p. if p.0 == t then Some p.1 else None) ps

none_later : (t n : ℕ) (ps : List Pending) → t < n → Numbered n ps → with_ticket t ps ≡ []
none_later t n [] l h = refl
none_later t n (p ∷ ps) l h =
    let k : p.0 ≡ n = h.0 in
    ap (λ (b : Bool). cons_option (if b then Some p.1 else None) (with_ticket t ps)) (differ p.0 t (λ e. omega (arith, e, k, l)))
    ∙ none_later t (suc n) ps (omega (arith, l)) h.1

-- a ticket is of one transaction
one_ticket : (n : ℕ) (ps : List Pending) (p : Pending) (i : ℕ) → Numbered n ps → slice_get ps i ≡ Some p → with_ticket p.0 ps ≡ p.1 ∷ []
one_ticket n [] p i h at = cc
one_ticket n (q ∷ ps) p zero h at = subst (λ (x : Pending). with_ticket x.0 (q ∷ ps) ≡ x.1 ∷ []) (same_some q p at) first
  where
    later : q.0 < suc n
    later = let k : q.0 ≡ n = h.0 in omega (arith, k)

    first : with_ticket q.0 (q ∷ ps) ≡ q.1 ∷ []
    first =
        ap (λ (b : Bool). cons_option (if b then Some q.1 else None) (with_ticket q.0 ps)) (eq-eqb q.0 q.0 refl)
        ∙ ap (λ (l : List Tx). q.1 ∷ l) (none_later q.0 (suc n) ps later h.1)
one_ticket n (q ∷ ps) p (suc i) h at =
    let k : q.0 ≡ n = h.0 in
    let l : p.0 ≡ suc n + i = number_at (suc n) ps i p h.1 at in
    ap (λ (b : Bool). cons_option (if b then Some q.1 else None) (with_ticket p.0 ps)) (differ q.0 p.0 (λ e. omega (arith, e, k, l)))
    ∙ one_ticket (suc n) ps p i h.1 at

-- whether one of these has a ticket
abbrev has_ticket : List Pending → ℕ → Bool
has_ticket ps t = list_any (λ p. p.0 == t) ps

-- without those whose tickets are taken, the others are left
left_over : (gone left : List Pending) → Numbered 0 (gone ++ left) → filter (λ p. not (has_ticket gone p.0)) (gone ++ left) ≡ left
left_over gone left h =
    filter-append stays gone left
    ∙ ap (λ (l : List Pending). l ++ filter stays left) (none_kept stays gone taken)
    ∙ all_kept stays left free
  where
    stays : Pending → Bool
    stays p = not (has_ticket gone p.0)

    taken : (i : ℕ) (p : Pending) → slice_get gone i ≡ Some p → stays p ≡ false
    taken i p at = ap not (any_at (λ (q : Pending). q.0 == p.0) gone i p at (eq-eqb p.0 p.0 refl))

    free : (i : ℕ) (p : Pending) → slice_get left i ≡ Some p → stays p ≡ true
    free i p at = by (has_ticket gone p.0) refl
      where
        by : (b : Bool) → has_ticket gone p.0 ≡ b → not b ≡ true
        by true e =
            let parts = numbered_parts 0 gone left h in
            let f = any_there (λ (q : Pending). q.0 == p.0) gone e in
            let n : ℕ = f.0 in
            let q : Pending = f.1 in
            let same : q.0 ≡ p.0 = eqb-true q.0 p.0 f.3 in
            let a : q.0 ≡ 0 + n = number_at 0 gone n q parts.0 f.2 in
            let b : p.0 ≡ (0 + length gone) + i = number_at (0 + length gone) left i p parts.1 at in
            let l : n < length gone = slice_get_within gone n q f.2 in
            absurd (omega (arith, same, a, b, l))
        by false e = refl

-- ---- what a call moves

-- it adds some to the back of the pool, with the next tickets, and takes some from its front
record Moves (w : World) (call : Call) (reply : Reply) : Type 0 where
  pub new : List Pending
  pub took : List Pending
  pub adds : cons_option (enqueued_by call reply) [] ≡ new
  pub keeps : w.replay.pending ++ new ≡ took ++ (after_call w.replay call reply).pending
  pub takes : (t : ℕ) → list_any (λ v. v.ticket == t) (verdicts_in reply) ≡ has_ticket took t
  pub counts : cond (is_some (ticket_in reply)) 1 0 ≡ length new
  pub numbers : Numbered w.tickets new

no_move : (w : World) (call : Call) (reply : Reply) → enqueued_by call reply ≡ None → verdicts_in reply ≡ [] → ticket_in reply ≡ None → (after_call w.replay call reply).pending ≡ w.replay.pending → Moves w call reply
no_move w call reply e v n p =
    record {
      new = [];
      took = [];
      adds = ap (λ (o : Option Pending). cons_option o []) e;
      keeps = no_more w.replay.pending ∙ sym p;
      takes = λ t. ap (λ (vs : List Ticketed). list_any (λ x. x.ticket == t) vs) v;
      counts = ap (λ (o : Option ℕ). cond (is_some o) 1 0) n;
      numbers = tt;
    }

-- the tickets in a round are those of the transactions that it takes
round_takes : (w : World) (ps : List Pending) (t : ℕ) → list_any (λ v. v.ticket == t) (round_verdicts w ps) ≡ has_ticket ps t
round_takes w [] t = refl
round_takes w (p ∷ ps) t = ap (λ (b : Bool). (p.0 == t) || b) (round_takes (with_accepted_unless w p.1 (fault_on w p.1)) ps t)

moves : (w : World) (call : Call) → Moves w call (reply_to w call)
moves w (on.Publish contract currency) = compiled (publication contract currency)
  where
    beside : (p : Published) (known : Option Published) → Moves w (on.Publish contract currency) (publish_reply_beside p known)
    beside p None = no_move w (on.Publish contract currency) (answer.Published p.id) refl refl refl refl
    beside p (Some known) = by (same_publication known p)
      where
        by : (b : Bool) → Moves w (on.Publish contract currency) (if b then answer.Published p.id else answer.IdInUse)
        by true = no_move w (on.Publish contract currency) (answer.Published p.id) refl refl refl refl
        by false = no_move w (on.Publish contract currency) answer.IdInUse refl refl refl refl

    compiled : (r : Result Published CompileFault) → Moves w (on.Publish contract currency) (publish_reply w r)
    compiled (Ok p) = beside p (published_at w.published p.id)
    compiled (Err fault) = no_move w (on.Publish contract currency) (answer.NotCompiled fault) refl refl refl refl
moves w (on.Advance t) = by (int_le w.replay.tick t)
  where
    by : (b : Bool) → Moves w (on.Advance t) (if b then answer.Advanced else answer.Backward)
    by true = no_move w (on.Advance t) answer.Advanced refl refl refl refl
    by false = no_move w (on.Advance t) answer.Backward refl refl refl refl
moves w (on.Look ask) = no_move w (on.Look ask) (answer.Look (look w ask)) refl refl refl refl
moves w (on.Submit tx) = by (fault_on w tx)
  where
    by : (f : Option TxFault) → Moves w (on.Submit tx) (submit_reply tx f)
    by None = no_move w (on.Submit tx) (answer.Accepted (id_of tx)) refl refl refl refl
    by (Some fault) = no_move w (on.Submit tx) (answer.Refused fault) refl refl refl refl
moves w (on.Enqueue tx) = by (nat_lt (length w.replay.pending) most_pending)
  where
    by : (b : Bool) → Moves w (on.Enqueue tx) (if b then answer.Ticket w.tickets else answer.Full)
    by true = record { new = pending_entry w.tickets tx ∷ []; took = []; adds = refl; keeps = refl; takes = λ t. refl; counts = refl; numbers = (refl, tt) }
    by false = no_move w (on.Enqueue tx) answer.Full refl refl refl refl
moves w (on.Round k) =
    record {
      new = [];
      took = take k w.replay.pending;
      adds = refl;
      keeps = no_more w.replay.pending ∙ sym (take-append-drop k w.replay.pending);
      takes = λ t. round_takes w (take k w.replay.pending) t;
      counts = refl;
      numbers = tt;
    }

-- ---- the pool

-- what was enqueued is what is gone and then what is pending; the tickets taken are those of what is gone; and the
-- tickets given count from 0, in the order of the pool
record Pool (c : Course) : Type 0 where
  pub gone : List Pending
  pub split : enqueued c.entries ≡ gone ++ (world c).replay.pending
  pub taken : (t : ℕ) → is_taken c.entries t ≡ has_ticket gone t
  pub numbered : Numbered 0 (enqueued c.entries)
  pub count : tickets c.entries ≡ length (enqueued c.entries)

abbrev begun : Course → Replay
begun c = record { tick = c.first_tick; accepted = []; pending = [] }

tickets_more : (es : List Entry) (e : Entry) → tickets (es ++ e ∷ []) ≡ tickets es + cond (is_some (ticket_in e.reply)) 1 0
unfolding gives_ticket
tickets_more es e =
    sum_by-append (λ (x : Entry). cond (gives_ticket x) 1 0) es (e ∷ [])
    ∙ ap (λ (n : ℕ). tickets es + n) (sym (none_plus (cond (is_some (ticket_in e.reply)) 1 0)))

pool_more : (c : Course) (e : Entry) → Moves (world c) e.call e.reply → Pool c → Pool (with_entry c e)
pool_more c e m p =
    record {
      gone = p.gone ++ m.took;
      split = split_now;
      taken = taken_now;
      numbered = subst (λ (l : List Pending). Numbered 0 l) (sym grown) (numbered_more 0 (enqueued c.entries) m.new p.numbered next);
      count = count_now;
    }
  where
    grown : enqueued (c.entries ++ e ∷ []) ≡ enqueued c.entries ++ m.new
    grown =
        filter_map-append (λ (x : Entry). enqueued_by x.call x.reply) c.entries (e ∷ [])
        ∙ ap (λ (l : List Pending). enqueued c.entries ++ l) m.adds

    next : Numbered (0 + length (enqueued c.entries)) m.new
    next = subst (λ (n : ℕ). Numbered n m.new) (p.count ∙ none_plus (length (enqueued c.entries))) m.numbers

    left : List Pending
    left = (after_call (world c).replay e.call e.reply).pending

    split_now : enqueued (c.entries ++ e ∷ []) ≡ (p.gone ++ m.took) ++ (world (with_entry c e)).replay.pending
    split_now =
        grown
        ∙ ap (λ (l : List Pending). l ++ m.new) p.split
        ∙ append_assoc p.gone (world c).replay.pending m.new
        ∙ ap (λ (l : List Pending). p.gone ++ l) m.keeps
        ∙ sym (append_assoc p.gone m.took left)
        ∙ ap (λ (s : Replay). (p.gone ++ m.took) ++ s.pending) (sym (replay_after (begun c) c.entries e))

    taken_now : (t : ℕ) → is_taken (c.entries ++ e ∷ []) t ≡ has_ticket (p.gone ++ m.took) t
    taken_now t =
        list_any-append (λ (x : Entry). list_any (λ v. v.ticket == t) (verdicts_in x.reply)) c.entries (e ∷ [])
        ∙ ap (λ (b : Bool). is_taken c.entries t || b) (or_none (list_any (λ v. v.ticket == t) (verdicts_in e.reply)) ∙ m.takes t)
        ∙ ap (λ (b : Bool). b || has_ticket m.took t) (p.taken t)
        ∙ sym (list_any-append (λ (q : Pending). q.0 == t) p.gone m.took)

    count_now : tickets (c.entries ++ e ∷ []) ≡ length (enqueued (c.entries ++ e ∷ []))
    count_now =
        tickets_more c.entries e
        ∙ ap (λ (n : ℕ). n + cond (is_some (ticket_in e.reply)) 1 0) p.count
        ∙ ap (λ (n : ℕ). length (enqueued c.entries) + n) m.counts
        ∙ sym (length-append (enqueued c.entries) m.new)
        ∙ ap (λ (l : List Pending). length l) (sym grown)

pool_next : (c : Course) → IsLegal c → (n : ℕ) → Pool (before_entry c n) → (o : Option Entry) → slice_get c.entries n ≡ o → Pool (before_entry c (suc n))
pool_next c legal n p None at = subst (λ (l : List Entry). Pool (record c { entries = l })) (sym (take_none n c.entries at)) p
pool_next c legal n p (Some e) at =
    let d = before_entry c n in
    let m = subst (λ (r : Reply). Moves (world d) e.call r) (sym (legal n e at).reply) (moves (world d) e.call) in
    subst (λ (l : List Entry). Pool (record c { entries = l })) (sym (take_some n c.entries e at)) (pool_more d e m p)

pool_at : (c : Course) → IsLegal c → (n : ℕ) → Pool (before_entry c n)
pool_at c legal zero = record { gone = []; split = refl; taken = λ t. refl; numbered = tt; count = refl }
pool_at c legal (suc n) = pool_next c legal n (pool_at c legal n) (slice_get c.entries n) refl

pool_of : (c : Course) → IsLegal c → Pool c
pool_of c legal = subst (λ (l : List Entry). Pool (record c { entries = l })) (take_whole c.entries) (pool_at c legal (length c.entries))

pending_so : (c : Course) → Pool c → (world c).replay.pending ≡ filter (λ p. not (is_taken c.entries p.0)) (enqueued c.entries)
pending_so c p =
    let same : (λ (q : Pending). not (is_taken c.entries q.0)) ≡ (λ (q : Pending). not (has_ticket p.gone q.0)) = λ i q. not (p.taken q.0 i) in
    sym (
    ap (λ (test : Pending → Bool). filter test (enqueued c.entries)) same
    ∙ ap (λ (l : List Pending). filter (λ q. not (has_ticket p.gone q.0)) l) p.split
    ∙ left_over p.gone (world c).replay.pending (subst (λ (l : List Pending). Numbered 0 l) p.split p.numbered)
    )

-- ---- what was accepted

-- of each of these transactions the entries tell the ticket
abbrev AreTicketed : List Entry → List Pending → Type 0
AreTicketed es ps = (i : ℕ) (p : Pending) → slice_get ps i ≡ Some p → of_ticket es p.0 ≡ p.1 ∷ []

round_accepts : (w : World) (es : List Entry) (ps : List Pending) → AreTicketed es ps → accepted_among ps (round_verdicts w ps) ≡ flat_map (accepted_in es) (round_verdicts w ps)
round_accepts w es [] h = refl
round_accepts w es (p ∷ ps) h =
    let next = with_accepted_unless w p.1 (fault_on w p.1) in
    let v : Ticketed = record { ticket = p.0; verdict = verdict_of (fault_on w p.1) } in
    ap (λ (l : List Tx). (if accepts v.verdict then l else []) ++ accepted_among ps (round_verdicts next ps)) (sym (h 0 p refl))
    ∙ ap (λ (l : List Tx). accepted_in es v ++ l) (round_accepts next es ps (λ i q at. h (suc i) q at))

-- what a call adds to what was accepted
accepts_more : (w : World) (es : List Entry) (call : Call) → AreTicketed es w.replay.pending → (after_call w.replay call (reply_to w call)).accepted ≡ w.replay.accepted ++ accepted_by es call (reply_to w call)
accepts_more w es (on.Publish contract currency) h = sym (no_more w.replay.accepted)
accepts_more w es (on.Advance t) h = sym (after_advance w.replay t) ∙ sym (no_more w.replay.accepted)
accepts_more w es (on.Look ask) h = sym (no_more w.replay.accepted)
accepts_more w es (on.Submit tx) h = by (fault_on w tx)
  where
    by : (f : Option TxFault) → (after_call w.replay (on.Submit tx) (submit_reply tx f)).accepted ≡ w.replay.accepted ++ accepted_by es (on.Submit tx) (submit_reply tx f)
    by None = refl
    by (Some fault) = sym (no_more w.replay.accepted)
accepts_more w es (on.Enqueue tx) h = sym (after_enqueue w tx) ∙ sym (no_more w.replay.accepted)
accepts_more w es (on.Round k) h =
    let first : AreTicketed es (take k w.replay.pending) = λ i p at. h i p (taken_at k i w.replay.pending p at).0 in
    ap (λ (l : List Tx). w.replay.accepted ++ l) (only_first w k w.replay.pending ∙ round_accepts w es (take k w.replay.pending) first)

-- after the first entries, what was accepted is told by them, with the tickets of all
abbrev AcceptsSo : Course → List Entry → Type 0
AcceptsSo c es = (world (record c { entries = es })).replay.accepted ≡ flat_map (λ e. accepted_by c.entries e.call e.reply) es

-- what is pending at an entry has its tickets in the whole history
pending_ticketed : (c : Course) → IsLegal c → (n : ℕ) → AreTicketed c.entries (world (before_entry c n)).replay.pending
pending_ticketed c legal n i p at = one_ticket 0 (enqueued c.entries) p there.0 (pool_of c legal).numbered there.1
  where
    earlier : List Entry
    earlier = take n c.entries

    later : List Entry
    later = drop n c.entries

    here : Among (enqueued earlier) p
    here =
        let pool = pool_at c legal n in
        let left = (world (before_entry c n)).replay.pending in
        subst (λ (l : List Pending). Among l p) (sym pool.split) (among_right pool.gone left p (i, at))

    all : enqueued earlier ++ enqueued later ≡ enqueued c.entries
    all =
        sym (filter_map-append (λ (x : Entry). enqueued_by x.call x.reply) earlier later)
        ∙ ap (λ (l : List Entry). enqueued l) (take-append-drop n c.entries)

    there : Among (enqueued c.entries) p
    there = subst (λ (l : List Pending). Among l p) all (among_left (enqueued earlier) (enqueued later) p here)

accepted_next : (c : Course) → IsLegal c → (n : ℕ) → AcceptsSo c (take n c.entries) → (o : Option Entry) → slice_get c.entries n ≡ o → AcceptsSo c (take (suc n) c.entries)
accepted_next c legal n before None at = subst (λ (l : List Entry). AcceptsSo c l) (sym (take_none n c.entries at)) before
accepted_next c legal n before (Some e) at =
    subst (λ (l : List Entry). AcceptsSo c l) (sym (take_some n c.entries e at)) (
    ap (λ (s : Replay). s.accepted) (replay_after (begun c) es e)
    ∙ step
    ∙ ap (λ (l : List Tx). l ++ adds e) before
    ∙ ap (λ (l : List Tx). flat_map adds es ++ l) (sym (no_more (adds e)))
    ∙ sym (flat_map-append adds es (e ∷ []))
    )
  where
    es : List Entry
    es = take n c.entries

    w : World
    w = world (before_entry c n)

    adds : Entry → List Tx
    adds x = accepted_by c.entries x.call x.reply

    step : (after_call w.replay e.call e.reply).accepted ≡ w.replay.accepted ++ adds e
    step =
        let told = accepts_more w c.entries e.call (pending_ticketed c legal n) in
        subst (λ (r : Reply). (after_call w.replay e.call r).accepted ≡ w.replay.accepted ++ accepted_by c.entries e.call r) (sym (legal n e at).reply) told

accepted_at : (c : Course) → IsLegal c → (n : ℕ) → AcceptsSo c (take n c.entries)
accepted_at c legal zero = refl
accepted_at c legal (suc n) = accepted_next c legal n (accepted_at c legal n) (slice_get c.entries n) refl

-- ---- the law

pub histories_stand : LegalHistoriesStand
histories_stand c legal =
    record {
      tick = tick_after (begun c) c.entries;
      pending = pending_so c (pool_of c legal);
      accepted = subst (λ (l : List Entry). AcceptsSo c l) (take_whole c.entries) (accepted_at c legal (length c.entries));
    }
