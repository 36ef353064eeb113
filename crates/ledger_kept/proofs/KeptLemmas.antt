-- What a tally says of a history, read by places.
use Rattle.std.proofs.Common.{◌≡◌, ℕ, zero, suc, ◌<◌, List, [], ◌∷◌, map, length, get_or, refl, sym, ◌∙◌, ap, arith, Option, Some, None}
use Rattle.std.specs.Prelude.{is_some, IsSome}
use Rattle.std.specs.List.{slice_get}
use Rattle.chain_index.specs.EutxoTypes.declared.tx.Tx.{Tx}
use Rattle.chain_index.specs.Ledger.declared.call.Entry.{Entry}
use Rattle.chain_index.specs.LedgerSpec.Replay.{Pending, pending_entry}
use Rattle.ledger_kept.specs.declared.tally.Waiting.{Waiting}
use Rattle.ledger_kept.specs.Kept.{text_at, with_text, pending_text}
use Rattle.ledger_kept.proofs.KeepLemmas.{there, AreWaiting, AreTexts, same_head, same_tail}

pub pending_there : (es : List Entry) (ws : List Waiting) (ps : List Pending) (i : ℕ) (d : Waiting) → AreWaiting es ws ps → i < length ps → IsSome (text_at es (get_or ws i d).entry)
pending_there es [] [] i d h l = absurd (omega arith)
pending_there es [] (p ∷ ps) i d h l = cc
pending_there es (w ∷ ws) [] i d h l = cc
pending_there es (w ∷ ws) (p ∷ ps) zero d h l = λ i. is_some ((same_head (with_text es w) (pending_text p) (map (with_text es) ws) (map pending_text ps) h i).1)
pending_there es (w ∷ ws) (p ∷ ps) (suc i) d h l =
    pending_there es ws ps i d (same_tail (with_text es w) (pending_text p) (map (with_text es) ws) (map pending_text ps) h) (omega (arith, l))

pub pending_is : (es : List Entry) (ws : List Waiting) (ps : List Pending) (i : ℕ) (d : Waiting) (tx : Tx) → AreWaiting es ws ps → i < length ps →
    text_at es (get_or ws i d).entry ≡ Some tx → slice_get ps i ≡ Some (pending_entry (get_or ws i d).ticket tx)
pending_is es [] [] i d tx h l t = absurd (omega arith)
pending_is es [] (p ∷ ps) i d tx h l t = cc
pending_is es (w ∷ ws) [] i d tx h l t = cc
pending_is es (w ∷ ws) (p ∷ ps) zero d tx h l t =
    let at = same_head (with_text es w) (pending_text p) (map (with_text es) ws) (map pending_text ps) h in
    let ticket : p.0 ≡ w.ticket = sym (λ i. (at i).0) in
    let text : p.1 ≡ tx = some_same p.1 tx (sym (λ i. (at i).1) ∙ t) in
    λ i. Some (ticket i, text i)
  where
    some_same : (x y : Tx) → Some x ≡ Some y → x ≡ y
    some_same x y k = cc
pending_is es (w ∷ ws) (p ∷ ps) (suc i) d tx h l t =
    pending_is es ws ps i d tx (same_tail (with_text es w) (pending_text p) (map (with_text es) ws) (map pending_text ps) h) (omega (arith, l)) t

pub accepted_there : (es : List Entry) (ns : List ℕ) (txs : List Tx) (i n : ℕ) → AreTexts es ns txs → Some n ≡ slice_get ns i → IsSome (text_at es n)
accepted_there es [] txs i n h a = cc
accepted_there es (m ∷ ns) [] i n h a = cc
accepted_there es (m ∷ ns) (tx ∷ txs) zero n h a = ap (λ o. is_some (read o)) a ∙ ap is_some (same_head (text_at es m) (Some tx) (map (text_at es) ns) (map there txs) h)
  where
    read : Option ℕ → Option Tx
    read None = None
    read (Some k) = text_at es k
accepted_there es (m ∷ ns) (tx ∷ txs) (suc i) n h a = accepted_there es ns txs i n (same_tail (text_at es m) (Some tx) (map (text_at es) ns) (map there txs) h) a

pub accepted_is : (es : List Entry) (ns : List ℕ) (txs : List Tx) (i n : ℕ) (x : Tx) → AreTexts es ns txs → Some n ≡ slice_get ns i → text_at es n ≡ Some x → Some x ≡ slice_get txs i
accepted_is es [] txs i n x h a t = cc
accepted_is es (m ∷ ns) [] i n x h a t = cc
accepted_is es (m ∷ ns) (tx ∷ txs) zero n x h a t = sym t ∙ ap read a ∙ same_head (text_at es m) (Some tx) (map (text_at es) ns) (map there txs) h
  where
    read : Option ℕ → Option Tx
    read None = None
    read (Some k) = text_at es k
accepted_is es (m ∷ ns) (tx ∷ txs) (suc i) n x h a t = accepted_is es ns txs i n x (same_tail (text_at es m) (Some tx) (map (text_at es) ns) (map there txs) h) a t

pub accepted_none : (es : List Entry) (ns : List ℕ) (txs : List Tx) (i : ℕ) → AreTexts es ns txs → None ≡ slice_get ns i → None ≡ slice_get txs i
accepted_none es [] [] i h a = refl
accepted_none es [] (tx ∷ txs) i h a = cc
accepted_none es (m ∷ ns) [] i h a = cc
accepted_none es (m ∷ ns) (tx ∷ txs) zero h a = cc
accepted_none es (m ∷ ns) (tx ∷ txs) (suc i) h a = accepted_none es ns txs i (same_tail (text_at es m) (Some tx) (map (text_at es) ns) (map there txs) h) a
