-- Which alarm is told for each.
use Rattle.std.proofs.Common.{◌≡◌, ℕ, zero, suc, ◌+◌, ◌<◌, ◌≤◌, List, [], ◌∷◌, ◌++◌, map, length, length-append, refl, sym, ap, ◌∙◌, subst, ◌⊎◌, inl, inr, arith}
use Rattle.std.proofs.Math.ListN.{get_or}
use Rattle.std.proofs.Math.Seq.{get_or-append_seam}
use Rattle.std.proofs.lemmas.List.{get_or_default, get_or_append_left}
use Rattle.contract.specs.Tree.{ContractTree}
use Rattle.alike_alarms.specs.declared.seen.Seen.{Seen}
use Rattle.alike_alarms.specs.Alike.{SeenAlarm, Leads, IsToldBy, AreToldBy}
use Rattle.alike_alarms.specs.AlikeSupport.{seen_of, IsChosen, CanTell, AreChosen}

map_length : (ss : List Seen) → length (map seen_of ss) ≡ length ss
map_length [] = refl
map_length (x ∷ ss) = ap suc (map_length ss)

below : (i n : ℕ) → i < n + 1 → (i < n) ⊎ (n ≡ i)
below i n l = grind arith

module _ (c : ContractTree) (all : List Seen) (guesses : List ℕ) where
  pub chosen_none : AreChosen c all guesses [] 0
  chosen_none = (refl, λ j l. absurd (omega (arith, l)))

  pub chosen_more : (ts : List ℕ) (n t : ℕ) → AreChosen c all guesses ts n → IsChosen c all guesses n t → AreChosen c all guesses (ts ++ t ∷ []) (n + 1)
  chosen_more ts n t h x = (length-append ts (t ∷ []) ∙ ap (λ k. k + 1) h.0, λ j l. by j (below j n l))
    where
      by : (j : ℕ) → (j < n) ⊎ (n ≡ j) → IsChosen c all guesses j (get_or (ts ++ t ∷ []) j j)
      by j (inl l) = subst (IsChosen c all guesses j) (sym (get_or_append_left ts (t ∷ []) j j (omega (arith, l, h.0)))) (h.1 j l)
      by j (inr e) =
          subst (λ k. IsChosen c all guesses k (get_or (ts ++ t ∷ []) k k)) e
          (subst (IsChosen c all guesses n) (sym (ap (λ k. get_or (ts ++ t ∷ []) k n) (sym h.0) ∙ get_or-append_seam ts t [] n)) x)

  -- the one at an index
  seen_at : (n : ℕ) (a : SeenAlarm) → n < length all → a ≡ get_or (map seen_of all) n a → (s : Seen) × (s ≡ get_or all n s) × (seen_of s ≡ a)
  seen_at n a l e = by all n l e
    where
      by : (ss : List Seen) (m : ℕ) → m < length ss → a ≡ get_or (map seen_of ss) m a → (s : Seen) × (s ≡ get_or ss m s) × (seen_of s ≡ a)
      by [] m l e = absurd (omega (arith, l))
      by (x ∷ ss) zero l e = (x, refl, sym e)
      by (x ∷ ss) (suc m) l e = let h = by ss m (omega (arith, l)) e in (h.0, h.1, h.2)

  pub all_told : (ts : List ℕ) (n : ℕ) → length all ≤ n → n ≤ length all → AreChosen c all guesses ts n → AreToldBy c (map seen_of all) ts
  all_told ts n few many h = (h.0 ∙ omega (arith, few, many) ∙ sym (map_length all), λ i l. each i (omega (arith, l, few, map_length all)))
    where
      itself : (i t : ℕ) → get_or ts i i ≡ t → t < length all → ((t ≡ i) ⊎ ((get_or guesses t t ≡ t) × ((a b : Seen) → a ≡ get_or all t a → b ≡ get_or all i b → Leads c t i (seen_of a) (seen_of b)))) → get_or ts t t ≡ t
      itself i t e there (inl q) = ap (λ j. get_or ts j j) q ∙ e
      itself i t e there (inr q) = (h.1 t (omega (arith, there, many, few))).itself q.0

      leads : (i t : ℕ) → i < n → t < length all → ((t ≡ i) ⊎ ((get_or guesses t t ≡ t) × ((a b : Seen) → a ≡ get_or all t a → b ≡ get_or all i b → Leads c t i (seen_of a) (seen_of b))))
          → (a b : SeenAlarm) → a ≡ get_or (map seen_of all) t a → b ≡ get_or (map seen_of all) i b → (t ≡ i) ⊎ Leads c t i a b
      leads i t l there (inl q) a b e f = inl q
      leads i t l there (inr q) a b e f =
          let x = seen_at t a there e in
          let y = seen_at i b (omega (arith, l, many)) f in
          inr (subst (λ (z : SeenAlarm). Leads c t i z b) x.2 (subst (λ (z : SeenAlarm). Leads c t i (seen_of x.0) z) y.2 (q.1 x.0 y.0 x.1 y.1)))

      each : (i : ℕ) → i < n → IsToldBy c (map seen_of all) ts i (get_or ts i i)
      each i l =
          let t = get_or ts i i in
          let x = h.1 i l in record {
            there = omega (arith, x.there, map_length all);
            itself = itself i t refl x.there x.leads;
            leads = λ a b e f. leads i t l x.there x.leads a b e f;
          }

-- ---- one of them

pub chosen_itself : (c : ContractTree) (all : List Seen) (guesses : List ℕ) (i : ℕ) → i < length all → IsChosen c all guesses i i
chosen_itself c all guesses i l = record { there = l; itself = λ e. refl; leads = inl refl }

pub chosen_guess : (c : ContractTree) (all : List Seen) (guesses : List ℕ) (i n : ℕ) → n ≡ get_or guesses i i → CanTell c all guesses i n → IsChosen c all guesses i n
chosen_guess c all guesses i n e h = record { there = h.0; itself = λ f. e ∙ f; leads = inr (h.1, h.2) }

pub can_tell_so : (c : ContractTree) (all : List Seen) (guesses : List ℕ) (i n : ℕ) (s t : Seen) → n < length all → i < length all → get_or guesses n n ≡ n → s ≡ get_or all n s → t ≡ get_or all i t → Leads c n i (seen_of s) (seen_of t)
    → CanTell c all guesses i n
can_tell_so c all guesses i n s t l k e f g h =
    (l, e, λ a b p q. subst (λ (z : Seen). Leads c n i (seen_of z) (seen_of b)) (same n s a l f p) (subst (λ (z : Seen). Leads c n i (seen_of s) (seen_of z)) (same i t b k g q) h))
  where
    same : (j : ℕ) (x y : Seen) → j < length all → x ≡ get_or all j x → y ≡ get_or all j y → x ≡ y
    same j x y few is at = is ∙ get_or_default all j x y few ∙ sym at
