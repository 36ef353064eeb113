-- Parts that clash, found from the last to the first: each part need only be compared with the next one of its script.
use Rattle.std.proofs.Common.{◌≡◌, ℕ, zero, suc, ◌-◌, ◌<◌, ◌≤◌, Bool, true, false, not, ◌&&◌, ◌||◌, if◌then◌else◌, List, [], ◌∷◌, length, drop, get_or, Option, Some, None, refl, sym, ◌∙◌, ap}
use Rattle.std.specs.Bool.{one_answer}
use Rattle.std.specs.List.{list_any}
use Rattle.contract.proofs.FromCollections.SameLaws.{same_by_decides}
use Rattle.builder_spec.specs.Roles.contracts.published.Published as publications
use Rattle.builder_spec.specs.Roles.declared.published.Published.{Published}
use Rattle.contract.proofs.FromNames.EqualLaws.{same_bytes_decides}
use Rattle.builder_spec.specs.EutxoTypes.Parts.{same_bytes}
use Rattle.builder_spec.specs.Steps.{Stepped}
use Rattle.builder_spec.specs.Parts.{same_published, clash, has_clash}
use Rattle.coin_selection.proofs.ListLaws.{back}
use Rattle.builder.specs.ClashSupport.{IsPut}

-- what the first of these under a script shows
abbrev pub under : List Stepped → List ℕ → Option Published
under [] id = None
under (s ∷ ss) id = if same_bytes s.thread.shown.published.id id then Some s.thread.shown.published else under ss id

-- whether it is another than this
abbrev pub differs : Published → Option Published → Bool
differs p None = false
differs p (Some q) = not (same_published p q)

-- whether this and what a part shows are different publications under one script
abbrev meets : Published → Stepped → Bool
meets p t = same_bytes p.id t.thread.shown.published.id && not (same_published p t.thread.shown.published)

mirrored : (a b : List ℕ) → same_bytes a b ≡ same_bytes b a
mirrored a b = one_answer _ _ (same_bytes_decides a b) ((λ h. sym ((same_bytes_decides b a).0 h)), (λ e. (same_bytes_decides b a).1 (sym e)))

none_of : (a b : Bool) → a || b ≡ false → (a ≡ false) × (b ≡ false)
none_of true b h = absurd (cc)
none_of false b h = (refl, h)

-- where no two clash, one clashes with some of them exactly where it clashes with the first of its script
met : (p : Published) (ss : List Stepped) → has_clash ss ≡ false → list_any (meets p) ss ≡ differs p (under ss p.id)
met p [] h = refl
met p (t ∷ ts) h = by (same_bytes q.id p.id) refl (met p ts none.1)
  where
    q : Published
    q = t.thread.shown.published

    none : (list_any (meets q) ts ≡ false) × (has_clash ts ≡ false)
    none = none_of (list_any (meets q) ts) (has_clash ts) h

    first : (b : Bool) → same_published p q ≡ b → not b || list_any (meets p) ts ≡ not b
    first false e = refl
    first true e = ap (λ r. list_any (meets r) ts) ((same_by_decides publications.the_row.coded p q).0 e) ∙ none.0

    by : (b : Bool) → same_bytes q.id p.id ≡ b → list_any (meets p) ts ≡ differs p (under ts p.id) → list_any (meets p) (t ∷ ts) ≡ differs p (if b then Some q else under ts p.id)
    by true e k = ap (λ c. (c && not (same_published p q)) || list_any (meets p) ts) (mirrored p.id q.id ∙ e) ∙ first (same_published p q) refl
    by false e k = ap (λ c. (c && not (same_published p q)) || list_any (meets p) ts) (mirrored p.id q.id ∙ e) ∙ k

or_none : (a b : Bool) → b ≡ false → a || b ≡ a
or_none true b h = refl
or_none false b h = h

-- ---- with the one before them

pub clash_here : (ss : List Stepped) (n : ℕ) (s : Stepped) (p : Published) (next : Option Published) → 0 < n → n ≤ length ss → s ≡ get_or ss (n - 1) s → p ≡ s.thread.shown.published →
    has_clash (drop n ss) ≡ false → next ≡ under (drop n ss) p.id → has_clash (drop (n - 1) ss) ≡ differs p next
clash_here ss n s p next h l is e k w =
    ap has_clash (back ss n s h l is) ∙ or_none (list_any (clash s) (drop n ss)) (has_clash (drop n ss)) k ∙ ap (λ q. list_any (meets q) (drop n ss)) (sym e) ∙ met p (drop n ss) k
    ∙ ap (differs p) (sym w)

pub under_here : (ss : List Stepped) (n : ℕ) (s : Stepped) (p : Published) (old new : List ℕ → Option Published) → 0 < n → n ≤ length ss → s ≡ get_or ss (n - 1) s →
    p ≡ s.thread.shown.published → ((id : List ℕ) → old id ≡ under (drop n ss) id) → IsPut old new p → (id : List ℕ) → new id ≡ under (drop (n - 1) ss) id
under_here ss n s p old new h l is e k put id =
    put id ∙ ap (λ o. if same_bytes p.id id then Some p else o) (k id) ∙ ap (λ (q : Published). if same_bytes q.id id then Some q else under (drop n ss) id) e
    ∙ ap (λ ts. under ts id) (sym (back ss n s h l is))

or_right : (a b : Bool) → b ≡ true → a || b ≡ true
or_right true b h = refl
or_right false b h = h

-- those that clash among the last clash among all
pub clash_drop : (n : ℕ) (ss : List Stepped) → has_clash (drop n ss) ≡ true → has_clash ss ≡ true
clash_drop zero ss h = h
clash_drop (suc n) [] h = h
clash_drop (suc n) (s ∷ ss) h = or_right (list_any (clash s) ss) (has_clash ss) (clash_drop n ss h)
