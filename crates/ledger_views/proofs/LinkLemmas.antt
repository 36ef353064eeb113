-- The transactions of a thread, found by their places.
use Rattle.std.proofs.Common.{◌≡◌, ℕ, zero, suc, ◌+◌, ◌<◌, Bool, true, false, List, [], ◌∷◌, refl, ◌∙◌, ap, arith, Option, Some, None, map, drop, length, get_or}
use Rattle.std.specs.Prelude.{if◌then◌else◌, is_some}
use Rattle.std.specs.List.{All}
use Rattle.ledger_kept.specs.EutxoTypes.declared.output_ref.OutputRef.{OutputRef}
use Rattle.ledger_kept.specs.EutxoTypes.declared.tx.Tx.{Tx}
use Rattle.ledger_kept.specs.EutxoTypes.Parts.{Instance}
use Rattle.ledger_kept.specs.Roles.Steps.{marlowe}
use Rattle.ledger_kept.specs.LedgerLaws.Past.{is_input_of}
use Rattle.ledger_kept.specs.LedgerLaws.Threads.{Link, spine_by, ends_by, IsMade, thread}
use Rattle.ledger_kept.proofs.FromLedgerLaws.PlainLaws.{same_some}
use Rattle.ledger_kept.specs.LedgerSpec.Replay.{World, past_of, published_at}
use Rattle.ledger_kept.specs.ChainIndex.declared.moves.StepPlace.{StepPlace}
use Rattle.ledger_kept.specs.ChainIndex.Contents.{Contents}
use Rattle.ledger_kept.specs.ChainIndex.Laws.{link_at, ThreadsAlike}
use Rattle.ledger_kept.specs.ChainIndex.Moves.{along}
use Rattle.ledger_kept.specs.Kept.{IsIndexOf}
use Rattle.ledger_views.specs.RecordsSupport.{goes_to, Leads}

some_head : {A : Type 0} (o : Option A) (os : List (Option A)) (y : A) (ys : List A) → o ∷ os ≡ Some y ∷ map (λ z. Some z) ys → (o ≡ Some y) × (os ≡ map (λ z. Some z) ys)
some_head o os y ys h = (cc, cc)

-- where all are there, each is
pub each_there : {A B : Type 0} (f : A → Option B) (xs : List A) (ys : List B) → map f xs ≡ map (λ y. Some y) ys → All (λ x. is_some (f x) ≡ true) xs
each_there f [] ys h k d l = absurd (omega (arith, l))
each_there f (x ∷ xs) [] h k d l = cc
each_there f (x ∷ xs) (y ∷ ys) h zero d l = ap is_some (some_head (f x) (map f xs) y ys h).0
each_there f (x ∷ xs) (y ∷ ys) h (suc k) d l = each_there f xs ys (some_head (f x) (map f xs) y ys h).1 k d (omega (arith, l))

pub all_same : {A : Type 0} (xs ys : List A) → map (λ x. Some x) xs ≡ map (λ y. Some y) ys → xs ≡ ys
all_same [] [] h = refl
all_same [] (y ∷ ys) h = cc
all_same (x ∷ xs) [] h = cc
all_same (x ∷ xs) (y ∷ ys) h =
    let p = some_head (Some x) (map (λ z. Some z) xs) y ys h in
    λ i. same_some x y p.0 i ∷ all_same xs ys p.1 i

-- ---- where they lead

goes_first : (next : OutputRef → Tx → Option OutputRef) (s : Option OutputRef) (txs : List Tx) → s ≡ goes_to (spine_by next s txs) (ends_by next s (spine_by next s txs))
goes_first next None txs = refl
goes_first next (Some r) [] = refl
goes_first next (Some r) (tx ∷ txs) = by (is_input_of r tx) (goes_first next (Some r) txs)
  where
    at : Link
    at = record { spends = r; tx = tx }

    later : List Link
    later = spine_by next (next r tx) txs

    stays : List Link
    stays = spine_by next (Some r) txs

    by : (b : Bool) → Some r ≡ goes_to stays (ends_by next (Some r) stays) → Some r ≡ goes_to (if b then at ∷ later else stays) (ends_by next (Some r) (if b then at ∷ later else stays))
    by true h = refl
    by false h = h

-- a thread leads to its end
pub spine_leads : (next : OutputRef → Tx → Option OutputRef) (s : Option OutputRef) (txs : List Tx) → Leads next (spine_by next s txs) (ends_by next s (spine_by next s txs))
spine_leads next None txs = tt
spine_leads next (Some r) [] = tt
spine_leads next (Some r) (tx ∷ txs) = by (is_input_of r tx) (spine_leads next (next r tx) txs) (spine_leads next (Some r) txs)
  where
    at : Link
    at = record { spends = r; tx = tx }

    later : List Link
    later = spine_by next (next r tx) txs

    stays : List Link
    stays = spine_by next (Some r) txs

    by : (b : Bool) → Leads next later (ends_by next (next r tx) later) → Leads next stays (ends_by next (Some r) stays) → Leads next (if b then at ∷ later else stays) (ends_by next (Some r) (if b then at ∷ later else stays))
    by true h k = (goes_first next (next r tx) txs, h)
    by false h k = k

one_more : (n : ℕ) → suc (n + 1) ≡ suc n + 1
one_more n = omega arith

-- and from each of its places to the one behind
pub leads_at : (next : OutputRef → Tx → Option OutputRef) (ls : List Link) (end : Option OutputRef) (i : ℕ) (l : Link) → Leads next ls end → i < length ls → l ≡ get_or ls i l → next l.spends l.tx ≡ goes_to (drop (i + 1) ls) end
leads_at next [] end i l h k e = absurd (omega (arith, k))
leads_at next (m ∷ ls) end zero l h k e = ap (λ (z : Link). next z.spends z.tx) e ∙ h.0
leads_at next (m ∷ ls) end (suc i) l h k e = leads_at next ls end i l h.1 (omega (arith, k)) e ∙ ap (λ (n : ℕ). goes_to (drop n (m ∷ ls)) end) (one_more i)

module _ (law : ThreadsAlike) (present : Contents) (w : World) (tied : IsIndexOf present w) (r : OutputRef) (made : (c : Instance) × IsMade (past_of w) r c) where
  pub along_thread : (xs : List StepPlace) → xs ≡ along r present.moves → map (link_at w.replay.accepted) xs ≡ map (λ l. Some l) (thread marlowe (published_at w.published) (past_of w) r)
  along_thread xs h =
      ap (map (link_at w.replay.accepted)) (h ∙ ap (λ (c : Contents). along r c.moves) tied.contents)
      ∙ (law (published_at w.published) (past_of w) tied.sound r made.0 made.1).steps
