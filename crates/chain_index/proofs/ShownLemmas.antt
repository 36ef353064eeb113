-- The outputs at the places of those that are shown, in order, are those that are shown.
use Rattle.std.proofs.Common.{◌≡◌, ℕ, suc, ◌+◌, ◌-◌, ◌<◌, ◌≤◌, arith, Bool, true, false, ◌&&◌, ◌||◌, not, cond, filter, List, [], ◌∷◌, ◌++◌, refl, sym, ◌∙◌, ap, subst, append_assoc, length, map, Option, Some, None}
use Rattle.std.specs.List.{slice_get, flat_map, AllByRecursion}
use Rattle.std.specs.List.Sorted.{IsStrictlySortedBy}
use Rattle.std.specs.Ordering.{nat_cmp}
use Rattle.std.specs.declared.cmp.Ordering.TheVariants.{Less}
use Rattle.std.specs.BTreeMap.{is_at}
use Rattle.std.proofs.lemmas.Bool.Decides.{nat_tests}
use Rattle.std.proofs.lemmas.List.{map-append}
use Rattle.std.proofs.lemmas.List.Elements.{filter-append}
use Rattle.ledger_spec.specs.EutxoTypes.declared.lock.Lock.{Lock}
use Rattle.ledger_spec.specs.EutxoTypes.declared.output.Output.{Output}
use Rattle.ledger_spec.specs.EutxoTypes.declared.output_ref.OutputRef.{OutputRef}
use Rattle.ledger_spec.specs.Ledger.declared.look.Unspent.{Unspent}
use Rattle.ledger_spec.specs.Views.{unspent_of}
use Rattle.ledger_spec.proofs.FromLedgerLaws.PlainLaws.{not_both, or_false}
use Rattle.chain_index.specs.Contents.{is_among}
use Rattle.chain_index.specs.HolesSupport.{live, staying}
use Rattle.chain_index.specs.UnderLocksSupport.{under, is_shown, passes, passes_at, has_place, row_with, row, rows_at}
use Rattle.chain_index.proofs.LiveLemmas.{live_append}
use Rattle.chain_index.proofs.PlaceLemmas.{place_so, place_itself, place_apart, place_flips}

abbrev Entry : Type 0
Entry = OutputRef × Option Output

-- ---- ascending places

-- places from one on
abbrev Ascend : ℕ → List ℕ → Type 0
Ascend n [] = Unit {0}
Ascend n (k ∷ ks) = (n ≤ k) × Ascend (k + 1) ks

above : (k n : ℕ) → nat_cmp k n ≡ Less → k + 1 ≤ n
above k n h = grind (arith, nat_tests)

ascend_from : (n : ℕ) (ks : List ℕ) → AllByRecursion (λ y. n ≤ y) ks → IsStrictlySortedBy nat_cmp ks → Ascend n ks
unfolding IsStrictlySortedBy
ascend_from n [] h s = tt
ascend_from n (k ∷ ks) h s = (h.0, ascend_from (k + 1) ks (all ks s.0) s.1)
  where
    all : (ys : List ℕ) → AllByRecursion (λ y. nat_cmp k y ≡ Less) ys → AllByRecursion (λ y. k + 1 ≤ y) ys
    all [] l = tt
    all (y ∷ ys) l = (above k y l.0, all ys l.1)

all_from : (ks : List ℕ) → AllByRecursion (λ y. 0 ≤ y) ks
all_from [] = tt
all_from (k ∷ ks) = (omega arith, all_from ks)

pub no_places : (ks : List ℕ) → (0 < length ks → false ≡ true) → ks ≡ []
no_places [] h = refl
no_places (k ∷ ks) h = let e = h (omega arith) in cc

-- none of them is below
none_below : (n i : ℕ) (ks : List ℕ) → i < n → Ascend n ks → has_place ks i ≡ false
none_below n i [] l a = refl
none_below n i (k ∷ ks) l a = ap (λ b. b || has_place ks i) (place_apart i k (omega (arith, l, a.0))) ∙ none_below (k + 1) i ks (omega (arith, l, a.0)) a.1

-- the first of them is where it has to be
first_there : (n k : ℕ) (ks : List ℕ) → Ascend n (k ∷ ks) → has_place (k ∷ ks) n ≡ true → n ≡ k
first_there n k ks a h = by (is_at (nat_cmp n) k) refl h
  where
    by : (b : Bool) → is_at (nat_cmp n) k ≡ b → b || has_place ks n ≡ true → n ≡ k
    by true e q = place_so n k e
    by false e q = absurd (not_both q (none_below (k + 1) n ks (let x = a.0 in omega (arith, x)) a.1))

one_up : (n : ℕ) (ks : List ℕ) → Ascend n ks → has_place ks n ≡ false → Ascend (n + 1) ks
one_up n [] a h = tt
one_up n (k ∷ ks) a h = (more n k a.0 (or_false (is_at (nat_cmp n) k) (has_place ks n) h).0, a.1)
  where
    more : (n k : ℕ) → n ≤ k → is_at (nat_cmp n) k ≡ false → n + 1 ≤ k
    more n k l e = grind (arith, nat_tests)

-- ---- entries

under_append : (asks : Lock → Bool) (leaving : List OutputRef) (es fs : List Entry) → under asks leaving (es ++ fs) ≡ under asks leaving es ++ under asks leaving fs
under_append asks leaving es fs =
    ap (λ l. map unspent_of (filter (λ e. asks e.1.lock) (staying leaving l))) (live_append es fs)
    ∙ ap (λ l. map unspent_of (filter (λ e. asks e.1.lock) l)) (filter-append (λ e. not (is_among leaving e.0)) (live es) (live fs))
    ∙ ap (map unspent_of) (filter-append (λ e. asks e.1.lock) (staying leaving (live es)) (staying leaving (live fs)))
    ∙ map-append unspent_of (filter (λ e. asks e.1.lock) (staying leaving (live es))) (filter (λ e. asks e.1.lock) (staying leaving (live fs)))

one_under : (asks : Lock → Bool) (leaving : List OutputRef) (e : Entry) → under asks leaving (e ∷ []) ≡ cond (is_shown asks leaving e) (row (Some e)) []
one_under asks leaving e = by e.1
  where
    at : (o : Output) (b c : Bool) → asks o.lock ≡ c → map unspent_of (filter (λ x. asks x.1.lock) (cond (not b) ((e.0, o) ∷ []) [])) ≡ cond (c && not b) (row_with e.0 (Some o)) []
    at o true true h = refl
    at o true false h = refl
    at o false true h = ap (λ b. map unspent_of (cond b ((e.0, o) ∷ []) [])) h
    at o false false h = ap (λ b. map unspent_of (cond b ((e.0, o) ∷ []) [])) h

    by : (o : Option Output) → under asks leaving ((e.0, o) ∷ []) ≡ cond (is_shown asks leaving (e.0, o)) (row_with e.0 o) []
    by None = refl
    by (Some o) = at o (is_among leaving e.0) (asks o.lock) refl

module _ (asks : Lock → Bool) (leaving : List OutputRef) where
  -- entries from a place on, where there are places from there on of just those that are shown
  abbrev Fits : ℕ → (ℕ → Option Entry) → List Entry → List ℕ → Type 0
  Fits n at es ks = Ascend n ks × ((i : ℕ) → at (n + i) ≡ slice_get es i) × ((i : ℕ) → has_place ks (n + i) ≡ passes (is_shown asks leaving) (slice_get es i))

  picked : (es : List Entry) (n : ℕ) (at : ℕ → Option Entry) (ks : List ℕ) → Fits n at es ks → flat_map (λ k. row (at k)) ks ≡ under asks leaving es
  picked [] n at [] f = refl
  picked [] n at (k ∷ ks) f =
      let z : n + (k - n) ≡ k = (let x = (f.0).0 in omega (arith, x)) in
      absurd (not_both (ap (λ b. b || has_place ks k) (place_itself k)) (ap (has_place (k ∷ ks)) (sym z) ∙ f.2 (k - n)))
  picked (e ∷ es) n at ks f = by (is_shown asks leaving e) refl (λ m js g. picked es m at js g) ks f
    where
      here : n + 0 ≡ n
      here = omega arith

      later : (i : ℕ) → (n + 1) + i ≡ n + suc i
      later i = omega arith

      under_cons : under asks leaving (e ∷ es) ≡ cond (is_shown asks leaving e) (row (Some e)) [] ++ under asks leaving es
      under_cons = under_append asks leaving (e ∷ []) es ∙ ap (λ (l : List Unspent). l ++ under asks leaving es) (one_under asks leaving e)

      by : (b : Bool) → is_shown asks leaving e ≡ b → ((m : ℕ) (js : List ℕ) → Fits m at es js → flat_map (λ k. row (at k)) js ≡ under asks leaving es) → (js : List ℕ) → Fits n at (e ∷ es) js →
          flat_map (λ k. row (at k)) js ≡ under asks leaving (e ∷ es)
      by false h go js g =
          go (n + 1) js (one_up n js g.0 (ap (has_place js) (sym here) ∙ g.2 0 ∙ h), (λ i. ap at (later i) ∙ g.1 (suc i)), (λ i. ap (has_place js) (later i) ∙ g.2 (suc i)))
          ∙ sym (under_cons ∙ ap (λ b. cond b (row (Some e)) [] ++ under asks leaving es) h)
      by true h go [] g = absurd (not_both (g.2 0 ∙ h) refl)
      by true h go (k ∷ js) g =
          let same : n ≡ k = first_there n k js g.0 (ap (has_place (k ∷ js)) (sym here) ∙ g.2 0 ∙ h) in
          let up : Ascend (n + 1) js = subst (λ j. Ascend (j + 1) js) (sym same) (g.0).1 in
          let there : at k ≡ Some e = ap at (sym same ∙ sym here) ∙ g.1 0 in
          let apart = λ (i : ℕ). place_flips ((n + 1) + i) k ∙ place_apart k ((n + 1) + i) (omega (arith, same)) in
          (λ i. row (there i) ++ go (n + 1) js (
            up,
            (λ i. ap at (later i) ∙ g.1 (suc i)),
            (λ i. sym (ap (λ b. b || has_place js ((n + 1) + i)) (apart i)) ∙ ap (has_place (k ∷ js)) (later i) ∙ g.2 (suc i)),
          ) i)
          ∙ sym (under_cons ∙ ap (λ b. cond b (row (Some e)) [] ++ under asks leaving es) h)

-- one place more, the first of those that are left
pub next_row : (es : List Entry) (told more all : List Unspent) (ks rest : List ℕ) (k : ℕ) → ks ≡ k ∷ rest → more ≡ told ++ row (slice_get es k) → told ++ rows_at es ks ≡ all → more ++ rows_at es rest ≡ all
next_row es told more all ks rest k e m h =
    ap (λ (l : List Unspent). l ++ rows_at es rest) m ∙ append_assoc told (row (slice_get es k)) (rows_at es rest) ∙ ap (λ (l : List ℕ). told ++ rows_at es l) (sym e) ∙ h

-- where places ascend, and are those of the entries that are shown
pub rows_shown : (asks : Lock → Bool) (leaving : List OutputRef) (es : List Entry) (ks : List ℕ) → IsStrictlySortedBy nat_cmp ks →
    ((i : ℕ) → has_place ks i ≡ passes_at (is_shown asks leaving) es i) → rows_at es ks ≡ under asks leaving es
rows_shown asks leaving es ks s h =
    let zero_plus : (i : ℕ) → 0 + i ≡ i = λ i. omega arith in
    picked asks leaving es 0 (slice_get es) ks (ascend_from 0 ks (all_from ks) s, (λ i. ap (slice_get es) (zero_plus i)), (λ i. ap (has_place ks) (zero_plus i) ∙ h i))
