-- What a call accepts, and that what was accepted stays.
use Rattle.std.proofs.Common.{◌≡◌, ℕ, zero, suc, ℤ, ◌≤◌, Bool, true, false, List, [], ◌∷◌, ◌++◌, refl, sym, ◌∙◌, ap, append_assoc, arith, Option, Some, None, take, drop, length}
use Rattle.std.specs.Prelude.{if◌then◌else◌, int_le, nat_lt}
use Rattle.builder_spec.specs.EutxoTypes.declared.tx.Tx.{Tx}
use Rattle.builder_spec.specs.EutxoTypes.declared.fault.TxFault.{TxFault}
use Rattle.builder_spec.specs.Eutxo.Local.{verdict_of}
use Rattle.builder_spec.specs.Ledger.declared.call.Call.{Call}
use Rattle.builder_spec.specs.Ledger.declared.call.Call.TheVariants as on
use Rattle.builder_spec.specs.Ledger.declared.call.Entry.{Entry}
use Rattle.builder_spec.specs.Ledger.declared.call.Reply.{Reply}
use Rattle.builder_spec.specs.Ledger.declared.call.Reply.TheVariants as answer
use Rattle.builder_spec.specs.Ledger.Replies.{is_advanced, is_accepted, ticket_in, verdicts_in}
use Rattle.std.proofs.lemmas.List.{take-append-drop}
use Rattle.ledger_laws.proofs.PlainLaws.{no_more}
use Rattle.ledger_spec.specs.Legal.{before_entry}
use Rattle.ledger_spec.specs.Replay.{Course, Pending, Replay, World, with_pending, after_call, accepted_at, accepted_among, replay_from, world}
use Rattle.ledger_spec.specs.Calls.{submit_reply, with_accepted_unless, fault_on, round_verdicts, most_pending, advance_reply, enqueue_reply}
use Rattle.ledger_spec.proofs.ReplayLaws.{replay_two}

-- ---- one call

advanced_by : (s : Replay) (t : ℤ) (b : Bool) → s.accepted ≡ (let r : Reply = if b then answer.Advanced else answer.Backward in (after_call s (on.Advance t) r).accepted)
advanced_by s t true = refl
advanced_by s t false = refl

pub after_advance : (s : Replay) (t : ℤ) → s.accepted ≡ (after_call s (on.Advance t) (advance_reply s.tick t)).accepted
after_advance s t = advanced_by s t (int_le s.tick t)

enqueued_by : (s : Replay) (tx : Tx) (n : ℕ) (b : Bool) → s.accepted ≡ (let r : Reply = if b then answer.Ticket n else answer.Full in (after_call s (on.Enqueue tx) r).accepted)
enqueued_by s tx n true = refl
enqueued_by s tx n false = refl

pub after_enqueue : (w : World) (tx : Tx) → w.replay.accepted ≡ (after_call w.replay (on.Enqueue tx) (enqueue_reply w)).accepted
after_enqueue w tx = enqueued_by w.replay tx w.tickets (nat_lt (length w.replay.pending) most_pending)

submitted_by : (w : World) (tx : Tx) (f : Option TxFault) → (with_accepted_unless w tx f).replay.accepted ≡ (after_call w.replay (on.Submit tx) (submit_reply tx f)).accepted
submitted_by w tx None = refl
submitted_by w tx (Some f) = refl

pub after_submit : (w next : World) (tx : Tx) → next ≡ with_accepted_unless w tx (fault_on w tx) → next.replay.accepted ≡ (after_call w.replay (on.Submit tx) (submit_reply tx (fault_on w tx))).accepted
after_submit w next tx h = ap (λ (v : World). v.replay.accepted) h ∙ submitted_by w tx (fault_on w tx)

-- ---- rounds

-- only the first are judged
pub only_first : (w : World) (k : ℕ) (ps : List Pending) → accepted_among ps (round_verdicts w (take k ps)) ≡ accepted_among (take k ps) (round_verdicts w (take k ps))
only_first w zero [] = refl
only_first w zero (p ∷ ps) = refl
only_first w (suc k) [] = refl
only_first w (suc k) (p ∷ ps) = ap (λ (l : List Tx). accepted_at p (Some (record { ticket = p.0; verdict = verdict_of (fault_on w p.1) })) ++ l) (only_first (with_accepted_unless w p.1 (fault_on w p.1)) k ps)

pub one_kept : (w : World) (p : Pending) (rest : List Tx) (f : Option TxFault) →
    (with_accepted_unless w p.1 f).replay.accepted ++ rest ≡ w.replay.accepted ++ (accepted_at p (Some (record { ticket = p.0; verdict = verdict_of f })) ++ rest)
one_kept w p rest None = append_assoc w.replay.accepted (p.1 ∷ []) rest
one_kept w p rest (Some f) = refl

-- ---- what was accepted stays

-- the second list goes on from the first
abbrev pub GoesOn : List Tx → List Tx → Type 0
GoesOn xs ys = (more : List Tx) × (ys ≡ xs ++ more)

nothing_more : (xs ys : List Tx) → ys ≡ xs → GoesOn xs ys
nothing_more xs ys h = ([], h ∙ sym (no_more xs))

goes_on_twice : (xs ys zs : List Tx) → GoesOn xs ys → GoesOn ys zs → GoesOn xs zs
goes_on_twice xs ys zs p q = (p.0 ++ q.0, q.1 ∙ ap (λ (l : List Tx). l ++ q.0) p.1 ∙ append_assoc xs p.0 q.0)

waiting : (s : Replay) (tx : Tx) (o : Option ℕ) → (with_pending s tx o).accepted ≡ s.accepted
waiting s tx None = refl
waiting s tx (Some n) = refl

pub call_more : (s : Replay) (call : Call) (r : Reply) → GoesOn s.accepted (after_call s call r).accepted
call_more s (on.Publish contract currency) r = nothing_more s.accepted s.accepted refl
call_more s (on.Advance t) r = by (is_advanced r)
  where
    by : (b : Bool) → GoesOn s.accepted (if b then record s { tick = t } else s).accepted
    by true = nothing_more s.accepted s.accepted refl
    by false = nothing_more s.accepted s.accepted refl
call_more s (on.Look ask) r = nothing_more s.accepted s.accepted refl
call_more s (on.Submit tx) r = by (is_accepted r)
  where
    by : (b : Bool) → GoesOn s.accepted (if b then record s { accepted = s.accepted ++ tx ∷ [] } else s).accepted
    by true = (tx ∷ [], refl)
    by false = nothing_more s.accepted s.accepted refl
call_more s (on.Enqueue tx) r = nothing_more s.accepted (with_pending s tx (ticket_in r)).accepted (waiting s tx (ticket_in r))
call_more s (on.Round k) r = (accepted_among s.pending (verdicts_in r), refl)

replay_more : (s : Replay) (es : List Entry) → GoesOn s.accepted (replay_from s es).accepted
replay_more s [] = nothing_more s.accepted s.accepted refl
replay_more s (e ∷ es) = goes_on_twice s.accepted (after_call s e.call e.reply).accepted (replay_from (after_call s e.call e.reply) es).accepted (call_more s e.call e.reply) (replay_more (after_call s e.call e.reply) es)

abbrev begun : Course → Replay
begun c = record { tick = c.first_tick; accepted = []; pending = [] }

take_on : {A : Type 0} (n m : ℕ) (xs : List A) → n ≤ m → (rest : List A) × (take m xs ≡ take n xs ++ rest)
take_on zero m xs h = (take m xs, refl)
take_on (suc n) zero xs h = absurd (omega arith)
take_on (suc n) (suc m) [] h = ([], refl)
take_on (suc n) (suc m) (x ∷ xs) h = let p = take_on n m xs (omega (arith, h)) in (p.0, ap (λ (l : List _). x ∷ l) p.1)

-- so from one entry of a history to a later one
pub accepted_on : (c : Course) (n m : ℕ) → n ≤ m → GoesOn (world (before_entry c n)).replay.accepted (world (before_entry c m)).replay.accepted
accepted_on c n m h =
    let p = take_on n m c.entries h in
    let q = replay_more (replay_from (begun c) (take n c.entries)) p.0 in
    (q.0, ap (λ (l : List Entry). (replay_from (begun c) l).accepted) p.1 ∙ ap (λ (s : Replay). s.accepted) (replay_two (begun c) (take n c.entries) p.0) ∙ q.1)

-- and to its end
pub accepted_before : (c : Course) (n : ℕ) → GoesOn (world (before_entry c n)).replay.accepted (world c).replay.accepted
accepted_before c n =
    let q = replay_more (replay_from (begun c) (take n c.entries)) (drop n c.entries) in
    (q.0, ap (λ (l : List Entry). (replay_from (begun c) l).accepted) (sym (take-append-drop n c.entries)) ∙ ap (λ (s : Replay). s.accepted) (replay_two (begun c) (take n c.entries) (drop n c.entries)) ∙ q.1)
