-- One place more of a round.
use Rattle.std.proofs.Common.{◌≡◌, ℕ, zero, suc, ◌+◌, ◌<◌, ◌≤◌, List, [], ◌∷◌, ◌++◌, refl, sym, ◌∙◌, ap, append_assoc, arith, drop, length, get_or}
use Rattle.std.specs.List.{slice_get}
use Rattle.std.proofs.lemmas.List.{at_drop_more, append-nil, drop_all}
use Rattle.chain_index.specs.Ledger.declared.call.Ticketed.{Ticketed}
use Rattle.ledger_kept.specs.declared.tally.Waiting.{Waiting}
use Rattle.ledger_kept.specs.TallySupport.{entry_at, entries_among}

no_places : (ws : List Waiting) → entries_among ws [] ≡ []
no_places [] = refl
no_places (w ∷ ws) = refl

at_place : (ws : List Waiting) (i : ℕ) (v : Ticketed) (vs : List Ticketed) → entries_among (drop i ws) (v ∷ vs) ≡ entry_at (slice_get ws i) v ++ entries_among (drop (suc i) ws) vs
at_place [] zero v vs = refl
at_place [] (suc i) v vs = refl
at_place (w ∷ ws) zero v vs = refl
at_place (w ∷ ws) (suc i) v vs = at_place ws i v vs

one_more : (i : ℕ) → suc i ≡ i + 1
one_more i = omega arith

-- the places so far, and the one at i
pub place_next : (ws : List Waiting) (vs : List Ticketed) (i : ℕ) (v : Ticketed) (all old new : List ℕ) → i < length vs → v ≡ get_or vs i v →
    new ≡ old ++ entry_at (slice_get ws i) v → all ≡ old ++ entries_among (drop i ws) (drop i vs) → all ≡ new ++ entries_among (drop (i + 1) ws) (drop (i + 1) vs)
place_next ws vs i v all old new h e n a =
    a
    ∙ ap (λ (l : List ℕ). old ++ l)
    (at_drop_more (λ (l : List Ticketed). entries_among (drop i ws) l) vs i v h
    ∙ ap (λ (x : Ticketed). entries_among (drop i ws) (x ∷ drop (i + 1) vs)) (sym e)
    ∙ at_place ws i v (drop (i + 1) vs)
    ∙ ap (λ (k : ℕ). entry_at (slice_get ws i) v ++ entries_among (drop k ws) (drop (i + 1) vs)) (one_more i))
    ∙ sym (append_assoc old (entry_at (slice_get ws i) v) (entries_among (drop (i + 1) ws) (drop (i + 1) vs)))
    ∙ ap (λ (l : List ℕ). l ++ entries_among (drop (i + 1) ws) (drop (i + 1) vs)) (sym n)

-- all places
pub places_end : (ws : List Waiting) (vs : List Ticketed) (i : ℕ) (all new : List ℕ) → length vs ≤ i → all ≡ new ++ entries_among (drop i ws) (drop i vs) → new ≡ all
places_end ws vs i all new h a =
    sym
    (a
    ∙ ap (λ (l : List Ticketed). new ++ entries_among (drop i ws) l) (drop_all i vs h)
    ∙ ap (λ (l : List ℕ). new ++ l) (no_places (drop i ws))
    ∙ append-nil new)
