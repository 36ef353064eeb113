-- One more place of a round.
use Rattle.std.proofs.Common.{◌≡◌, ℕ, zero, suc, ◌+◌, ◌<◌, List, [], ◌∷◌, ◌++◌, refl, sym, ◌∙◌, ap, append_assoc, arith, Option, Some, None, take, drop, length, map}
use Rattle.std.specs.List.{slice_get}
use Rattle.std.proofs.lemmas.List.{map-append}
use Rattle.ledger_views.specs.EutxoTypes.declared.tx.Tx.{Tx}
use Rattle.ledger_views.specs.EutxoTypes.declared.fault.TxFault.{TxFault}
use Rattle.ledger_views.specs.Eutxo.Local.{verdict_of}
use Rattle.ledger_views.specs.Ledger.declared.call.Ticketed.{Ticketed}
use Rattle.ledger_views.proofs.FromLedgerLaws.PlainLaws.{take_some, drop_some, no_more, same_some}
use Rattle.ledger_views.specs.LedgerSpec.Replay.{Pending, World, accepted_at, accepted_among}
use Rattle.ledger_views.specs.LedgerSpec.Calls.{with_accepted_unless, fault_on, round_verdicts}
use Rattle.ledger_dispatch.specs.DispatchSupport.{with_places}

one_more : (i : ℕ) → suc i ≡ i + 1
one_more i = omega arith

pub at_taken : {A : Type 0} (xs : List A) (n i : ℕ) → i < n → slice_get (take n xs) i ≡ slice_get xs i
at_taken [] zero i h = absurd (omega arith)
at_taken [] (suc n) i h = refl
at_taken (x ∷ xs) zero i h = absurd (omega arith)
at_taken (x ∷ xs) (suc n) zero h = refl
at_taken (x ∷ xs) (suc n) (suc i) h = at_taken xs n i (omega arith)

-- the first ones mapped, and one more
pub mapped_more : {A B : Type 0} (f : A → B) (xs : List A) (i : ℕ) (x : A) → slice_get xs i ≡ Some x → map f (take (i + 1) xs) ≡ map f (take i xs) ++ f x ∷ []
mapped_more f xs i x at = ap (λ (n : ℕ). map f (take n xs)) (sym (one_more i)) ∙ ap (map f) (take_some i xs x at) ∙ map-append f (take i xs) (x ∷ [])

-- ---- what stands in the middle

abbrev pub ticketed : Pending → Option TxFault → Ticketed
ticketed p f = record { ticket = p.0; verdict = verdict_of f }

-- with these accepted transactions
abbrev with_these : World → List Tx → World
with_these w txs = record w { replay = record w.replay { accepted = txs } }

none_among : (ps : List Pending) → accepted_among ps [] ≡ []
none_among [] = refl
none_among (p ∷ ps) = refl

pub begun : (w : World) → with_places w [] ≡ w
begun w = ap (λ (l : List Tx). with_these w (w.replay.accepted ++ l)) (none_among w.replay.pending) ∙ ap (with_these w) (no_more w.replay.accepted)

among_more : (ps : List Pending) (vs : List Ticketed) (i : ℕ) (p : Pending) (t : Ticketed) → length vs ≡ i → slice_get ps i ≡ Some p →
    accepted_among ps (vs ++ t ∷ []) ≡ accepted_among ps vs ++ accepted_at p (Some t)
among_more [] vs i p t long at = cc
among_more (q ∷ ps) [] zero p t long at =
    ap (λ (l : List Tx). accepted_at q (Some t) ++ l) (none_among ps) ∙ no_more (accepted_at q (Some t)) ∙ ap (λ (x : Pending). accepted_at x (Some t)) (same_some q p at)
among_more (q ∷ ps) [] (suc i) p t long at = absurd (omega (arith, long))
among_more (q ∷ ps) (v ∷ vs) zero p t long at = absurd (omega (arith, long))
among_more (q ∷ ps) (v ∷ vs) (suc i) p t long at =
    ap (λ (l : List Tx). accepted_at q (Some v) ++ l) (among_more ps vs i p t (omega (arith, long)) at) ∙ sym (append_assoc (accepted_at q (Some v)) (accepted_among ps vs) (accepted_at p (Some t)))

-- one place more is one judged transaction more
accepted_by : (w : World) (tx : Tx) (p : Pending) (f : Option TxFault) → tx ≡ p.1 → with_accepted_unless w tx f ≡ with_these w (w.replay.accepted ++ accepted_at p (Some (ticketed p f)))
accepted_by w tx p None e = ap (λ (x : Tx). with_these w (w.replay.accepted ++ x ∷ [])) e
accepted_by w tx p (Some f) e = ap (with_these w) (sym (no_more w.replay.accepted))

place_told : (w : World) (vs : List Ticketed) (i : ℕ) (p : Pending) (f : Option TxFault) → length vs ≡ i → slice_get w.replay.pending i ≡ Some p →
    with_accepted_unless (with_places w vs) p.1 f ≡ with_places w (vs ++ ticketed p f ∷ [])
place_told w vs i p f long at =
    accepted_by (with_places w vs) p.1 p f refl
    ∙ ap (with_these w)
    (append_assoc w.replay.accepted (accepted_among w.replay.pending vs) (accepted_at p (Some (ticketed p f)))
    ∙ ap (λ (l : List Tx). w.replay.accepted ++ l) (sym (among_more w.replay.pending vs i p (ticketed p f) long at)))

-- ---- what is told

place_more : (w next : World) (ps : List Pending) (i : ℕ) (p : Pending) (places : List Ticketed) (t : Ticketed) (all : List Ticketed) →
    all ≡ places ++ round_verdicts w (drop i ps) → slice_get ps i ≡ Some p →
    t ≡ ticketed p (fault_on w p.1) → with_accepted_unless w p.1 (fault_on w p.1) ≡ next →
    all ≡ (places ++ t ∷ []) ++ round_verdicts next (drop (i + 1) ps)
place_more w next ps i p places t all h at e n =
    h
    ∙ ap (λ (l : List Pending). places ++ round_verdicts w l) (drop_some i ps p at ∙ ap (λ (k : ℕ). p ∷ drop k ps) (one_more i))
    ∙ ap (λ (x : Ticketed). places ++ x ∷ round_verdicts (with_accepted_unless w p.1 (fault_on w p.1)) (drop (i + 1) ps)) (sym e)
    ∙ ap (λ (v : World). places ++ t ∷ round_verdicts v (drop (i + 1) ps)) n
    ∙ sym (append_assoc places (t ∷ []) (round_verdicts next (drop (i + 1) ps)))

-- what stands once one place more is told
pub stands_on : (w : World) (vs : List Ticketed) (i : ℕ) (p : Pending) (t : Ticketed) →
    length vs ≡ i → slice_get w.replay.pending i ≡ Some p → t ≡ ticketed p (fault_on (with_places w vs) p.1) →
    with_accepted_unless (with_places w vs) p.1 (fault_on (with_places w vs) p.1) ≡ with_places w (vs ++ t ∷ [])
stands_on w vs i p t long at e = place_told w vs i p (fault_on (with_places w vs) p.1) long at ∙ ap (λ (x : Ticketed). with_places w (vs ++ x ∷ [])) (sym e)

pub told_more : (w : World) (ps : List Pending) (vs : List Ticketed) (i : ℕ) (p : Pending) (t : Ticketed) (all : List Ticketed) →
    all ≡ vs ++ round_verdicts (with_places w vs) (drop i ps) → length vs ≡ i →
    slice_get ps i ≡ Some p → slice_get w.replay.pending i ≡ Some p → t ≡ ticketed p (fault_on (with_places w vs) p.1) →
    all ≡ (vs ++ t ∷ []) ++ round_verdicts (with_places w (vs ++ t ∷ [])) (drop (i + 1) ps)
told_more w ps vs i p t all h long here at e = place_more (with_places w vs) (with_places w (vs ++ t ∷ [])) ps i p vs t all h here e (stands_on w vs i p t long at e)
