-- Entries that are no holes.
use Rattle.std.proofs.Common.{◌≡◌, Bool, true, false, ◌||◌, not, cond, filter, List, [], ◌∷◌, ◌++◌, refl, sym, ◌∙◌, ap, subst, Option, Some, None, ◌<◌, length, arith}
use Rattle.std.specs.Prelude.{is_some}
use Rattle.std.specs.List.{IsDistinct, AllByRecursion}
use Rattle.std.specs.Map.{lookup, keys_of, set_value}
use Rattle.std.proofs.lemmas.Map.Entries.{lookup-filter-keys}
use Rattle.ledger_spec.specs.EutxoTypes.declared.output_ref.OutputRef.{OutputRef}
use Rattle.ledger_spec.specs.EutxoTypes.Parts.{same_ref}
use Rattle.ledger_spec.proofs.FromLedgerLaws.ReferenceLaws.{same_ref_so}
use Rattle.chain_index.specs.Contents.{is_among}
use Rattle.chain_index.specs.HolesSupport.{with_live, live, staying, known}
use Rattle.chain_index.specs.NamingSupport.{slots}
use Rattle.ledger_spec.specs.EutxoTypes.contracts.output_ref.OutputRefPartialEq.TheImpl.{ghosts}
use Rattle.chain_index.proofs.RefLemmas.{eq_same, among_more}

abbrev Slots : Type 0 → Type 0
Slots V = List (OutputRef × Option V)

abbrev Absent : {V : Type 0} → OutputRef → Slots V → Type 0
Absent r es = AllByRecursion (λ y. same_ref r y ≡ false) (keys_of es)

abbrev pub inside : {V : Type 0} → Option (Option V) → Option V
inside None = None
inside (Some o) = o

absent_live : {V : Type 0} (r : OutputRef) (es : Slots V) → Absent r es → lookup (same_ref r) (live es) ≡ None
absent_live r [] h = refl
absent_live {V} r (e ∷ es) h = by e.1 (absent_live r es h.1)
  where
    by : (o : Option V) → lookup (same_ref r) (live es) ≡ None → lookup (same_ref r) (with_live e.0 o (live es)) ≡ None
    by None go = go
    by (Some v) go = ap (λ b. cond b (Some v) (lookup (same_ref r) (live es))) h.0 ∙ go

kept_all : {V : Type 0} (r : OutputRef) (es : Slots V) → Absent r es → filter (λ e. not (same_ref r e.0)) (live es) ≡ live es
kept_all r [] h = refl
kept_all {V} r (e ∷ es) h = by e.1 (kept_all r es h.1)
  where
    by : (o : Option V) → filter (λ x. not (same_ref r x.0)) (live es) ≡ live es → filter (λ x. not (same_ref r x.0)) (with_live e.0 o (live es)) ≡ with_live e.0 o (live es)
    by None go = go
    by (Some v) go =
        ap (λ b. cond (not b) ((e.0, v) ∷ filter (λ x. not (same_ref r x.0)) (live es)) (filter (λ x. not (same_ref r x.0)) (live es))) h.0
        ∙ ap (λ (l : List (OutputRef × V)). (e.0, v) ∷ l) go

-- what is found among the live ones
pub lookup_live : {V : Type 0} (r : OutputRef) (es : Slots V) → IsDistinct same_ref (keys_of es) → lookup (same_ref r) (live es) ≡ inside (lookup (same_ref r) es)
unfolding IsDistinct
lookup_live r [] d = refl
lookup_live {V} r (e ∷ es) d = by (same_ref r e.0) refl e.1 (lookup_live r es d.1)
  where
    by : (b : Bool) → same_ref r e.0 ≡ b → (o : Option V) → lookup (same_ref r) (live es) ≡ inside (lookup (same_ref r) es) → lookup (same_ref r) (with_live e.0 o (live es)) ≡ inside (cond b (Some o) (lookup (same_ref r) es))
    by true p None go = subst (λ (q : OutputRef). lookup (same_ref q) (live es) ≡ None) (sym (same_ref_so r e.0 p)) (absent_live e.0 es d.0)
    by true p (Some v) go = ap (λ b. cond b (Some v) (lookup (same_ref r) (live es))) p
    by false p None go = go
    by false p (Some v) go = ap (λ b. cond b (Some v) (lookup (same_ref r) (live es))) p ∙ go

-- a hole more
pub removed : {V : Type 0} (r : OutputRef) (es : Slots V) → IsDistinct same_ref (keys_of es) → live (set_value (same_ref r) es None) ≡ filter (λ e. not (same_ref r e.0)) (live es)
unfolding IsDistinct
removed r [] d = refl
removed {V} r (e ∷ es) d = by (same_ref r e.0) refl e.1 (removed r es d.1)
  where
    rest : List (OutputRef × V)
    rest = filter (λ x. not (same_ref r x.0)) (live es)

    by : (b : Bool) → same_ref r e.0 ≡ b → (o : Option V) → live (set_value (same_ref r) es None) ≡ rest → live (cond b ((e.0, None) ∷ es) ((e.0, o) ∷ set_value (same_ref r) es None)) ≡ filter (λ x. not (same_ref r x.0)) (with_live e.0 o (live es))
    by true p None go = subst (λ (q : OutputRef). live es ≡ filter (λ x. not (same_ref q x.0)) (live es)) (sym (same_ref_so r e.0 p)) (sym (kept_all e.0 es d.0))
    by true p (Some v) go =
        subst (λ (q : OutputRef). live es ≡ filter (λ x. not (same_ref q x.0)) (live es)) (sym (same_ref_so r e.0 p)) (sym (kept_all e.0 es d.0))
        ∙ sym (ap (λ b. cond (not b) ((e.0, v) ∷ rest) rest) p)
    by false p None go = go
    by false p (Some v) go = ap (λ (l : List (OutputRef × V)). (e.0, v) ∷ l) go ∙ sym (ap (λ b. cond (not b) ((e.0, v) ∷ rest) rest) p)

-- no such key
pub absent_lookup : {V : Type 0} (r : OutputRef) (es : List (OutputRef × V)) → is_among (keys_of es) r ≡ false → lookup (same_ref r) es ≡ None
absent_lookup r [] h = refl
absent_lookup {V} r (e ∷ es) h = by (same_ref r e.0) h (absent_lookup r es)
  where
    by : (b : Bool) → b || is_among (keys_of es) r ≡ false → (is_among (keys_of es) r ≡ false → lookup (same_ref r) es ≡ None) → cond b (Some e.1) (lookup (same_ref r) es) ≡ None
    by true k go = cc
    by false k go = go k

-- one more that leaves
pub staying_more : {V : Type 0} (rs : List OutputRef) (r : OutputRef) (es : List (OutputRef × V)) → staying rs (filter (λ e. not (same_ref r e.0)) es) ≡ staying (rs ++ r ∷ []) es
staying_more rs r [] = refl
staying_more {V} rs r (e ∷ es) =
    by (same_ref r e.0) (is_among rs e.0) refl (staying_more rs r es)
    ∙ sym (ap (λ b. cond (not b) (e ∷ staying (rs ++ r ∷ []) es) (staying (rs ++ r ∷ []) es)) (among_more rs r e.0))
  where
    all : List (OutputRef × V)
    all = staying (rs ++ r ∷ []) es

    by : (b c : Bool) → is_among rs e.0 ≡ c → staying rs (filter (λ x. not (same_ref r x.0)) es) ≡ all → staying rs (cond (not b) (e ∷ filter (λ x. not (same_ref r x.0)) es) (filter (λ x. not (same_ref r x.0)) es)) ≡ cond (not (c || b)) (e ∷ all) all
    by true true p go = go
    by true false p go = go
    by false true p go = ap (λ b. cond (not b) (e ∷ staying rs (filter (λ x. not (same_ref r x.0)) es)) (staying rs (filter (λ x. not (same_ref r x.0)) es))) p ∙ go
    by false false p go =
        ap (λ b. cond (not b) (e ∷ staying rs (filter (λ x. not (same_ref r x.0)) es)) (staying rs (filter (λ x. not (same_ref r x.0)) es))) p
        ∙ ap (λ (l : List (OutputRef × V)). e ∷ l) go

pub none_leave : {V : Type 0} (es : List (OutputRef × V)) → staying [] es ≡ es
none_leave [] = refl
none_leave (e ∷ es) = ap (λ (l : List _). e ∷ l) (none_leave es)

-- without holes
pub closed : {V : Type 0} (es : Slots V) → live (filter (λ e. is_some e.1) es) ≡ live es
closed [] = refl
closed {V} (e ∷ es) = by e.1 (closed es)
  where
    by : (o : Option V) → live (filter (λ x. is_some x.1) es) ≡ live es → live (cond (is_some o) ((e.0, o) ∷ filter (λ x. is_some x.1) es) (filter (λ x. is_some x.1) es)) ≡ with_live e.0 o (live es)
    by None go = go
    by (Some v) go = ap (λ (l : List (OutputRef × V)). (e.0, v) ∷ l) go

or_more : (a b c : Bool) → (b ≡ true → c ≡ true) → a || b ≡ true → a || c ≡ true
or_more true b c f h = refl
or_more false b c f h = f h

or_second : (a b : Bool) → b ≡ true → a || b ≡ true
or_second true b h = refl
or_second false b h = h

pub fewer_known : {V : Type 0} (es : Slots V) (r : OutputRef) → is_among (keys_of (filter (λ e. is_some e.1) es)) r ≡ true → is_among (keys_of es) r ≡ true
fewer_known [] r h = h
fewer_known {V} (e ∷ es) r h = by (is_some e.1) h (fewer_known es r)
  where
    by : (b : Bool) → is_among (keys_of (cond b (e ∷ filter (λ x. is_some x.1) es) (filter (λ x. is_some x.1) es))) r ≡ true →
        (is_among (keys_of (filter (λ x. is_some x.1) es)) r ≡ true → is_among (keys_of es) r ≡ true) → (same_ref r e.0 || is_among (keys_of es) r) ≡ true
    by true k go = or_more (same_ref r e.0) (is_among (keys_of (filter (λ x. is_some x.1) es)) r) (is_among (keys_of es) r) go k
    by false k go = or_second (same_ref r e.0) (is_among (keys_of es) r) (go k)

-- what is there now
pub present_is : {V : Type 0} (rs : List OutputRef) (es : List (OutputRef × V)) (r : OutputRef) → lookup (same_ref r) (staying rs es) ≡ cond (not (is_among rs r)) (lookup (same_ref r) es) None
present_is rs es r =
    lookup-filter-keys (same_ref r) (λ q. not (is_among rs q)) (not (is_among rs r)) (λ q h. ap (λ (s : OutputRef). not (is_among rs s)) (sym (same_ref_so r q h))) es

pub unspent_none : {V : Type 0} (rs : List OutputRef) (es : Slots V) (r : OutputRef) → is_among rs r ≡ true → None ≡ lookup (same_ref r) (staying rs (live es))
unspent_none rs es r h = sym (present_is rs (live es) r ∙ ap (λ b. cond (not b) (lookup (same_ref r) (live es)) None) h)

pub unspent_some : {V : Type 0} (rs : List OutputRef) (es : Slots V) (r : OutputRef) → is_among rs r ≡ false → lookup (same_ref r) (live es) ≡ lookup (same_ref r) (staying rs (live es))
unspent_some rs es r h = sym (present_is rs (live es) r ∙ ap (λ b. cond (not b) (lookup (same_ref r) (live es)) None) h)

none_cond : {A : Type 0} (b : Bool) (x : A) (o : Option A) → cond b (Some x) o ≡ None → (b ≡ false) × (o ≡ None)
none_cond true x o h = cc
none_cond false x o h = (refl, h)

absent : {V : Type 0} (r : OutputRef) (es : Slots V) → lookup (same_ref r) es ≡ None → Absent r es
absent r [] h = tt
absent r (e ∷ es) h = let p = none_cond (same_ref r e.0) e.1 (lookup (same_ref r) es) h in (p.0, absent r es p.1)

-- where the reference isn't there, nothing is there under it
pub none_live : {V : Type 0} (r : OutputRef) (es : Slots V) → lookup (same_ref r) es ≡ None → lookup (same_ref r) (live es) ≡ None
none_live r es h = absent_live r es (absent r es h)

-- and nothing is taken out
pub kept_without : {V : Type 0} (r : OutputRef) (es : Slots V) → lookup (same_ref r) es ≡ None → filter (λ e. not (same_ref r e.0)) (live es) ≡ live es
kept_without r es h = kept_all r es (absent r es h)

-- what a map of slots answers
pub value_so : {V : Type 0} (r : OutputRef) (es : Slots V) (o : Option (Option V)) → IsDistinct ghosts.eq (keys_of es) → o ≡ lookup (ghosts.eq r) es → inside o ≡ lookup (same_ref r) (live es)
value_so r es o d h =
    ap inside (h ∙ ap (λ e. lookup (e r) es) eq_same) ∙ sym (lookup_live r es (subst (λ e. IsDistinct e (keys_of es)) eq_same d))

pub without_so : {V : Type 0} (r : OutputRef) (es : Slots V) (o : Option (Option V)) → o ≡ None → o ≡ lookup (ghosts.eq r) es → live es ≡ filter (λ e. not (same_ref r e.0)) (live es)
without_so r es o n h = sym (kept_without r es (sym (ap (λ e. lookup (e r) es) eq_same) ∙ sym h ∙ n))

pub no_keys : (rs : List OutputRef) → (0 < length rs → false ≡ true) → rs ≡ []
no_keys [] h = refl
no_keys (r ∷ rs) h = let e = h (omega arith) in cc

-- ---- lists of entries

pub live_append : {V : Type 0} (es fs : List (OutputRef × Option V)) → live (es ++ fs) ≡ live es ++ live fs
live_append [] fs = refl
live_append {V} (e ∷ es) fs = by e.1 (live_append es fs)
  where
    by : (o : Option V) → live (es ++ fs) ≡ live es ++ live fs → with_live e.0 o (live (es ++ fs)) ≡ with_live e.0 o (live es) ++ live fs
    by None go = go
    by (Some v) go = ap (λ (l : List (OutputRef × V)). (e.0, v) ∷ l) go

pub live_slots : {V : Type 0} (es : List (OutputRef × V)) → live (slots es) ≡ es
live_slots [] = refl
live_slots (e ∷ es) = ap (λ (l : List _). e ∷ l) (live_slots es)

-- what is there is known
live_known : {V : Type 0} (es : Slots V) (r : OutputRef) → is_some (lookup (same_ref r) (live es)) ≡ true → is_among (known es) r ≡ true
live_known [] r h = h
live_known {V} (e ∷ es) r h = by e.1 h (live_known es r)
  where
    at : (v : V) (b : Bool) → is_some (cond b (Some v) (lookup (same_ref r) (live es))) ≡ true → (is_some (lookup (same_ref r) (live es)) ≡ true → is_among (known es) r ≡ true) → b || is_among (known es) r ≡ true
    at v true k go = refl
    at v false k go = go k

    by : (o : Option V) → is_some (lookup (same_ref r) (with_live e.0 o (live es))) ≡ true → (is_some (lookup (same_ref r) (live es)) ≡ true → is_among (known es) r ≡ true) → same_ref r e.0 || is_among (known es) r ≡ true
    by None k go = or_second (same_ref r e.0) (is_among (known es) r) (go k)
    by (Some v) k go = at v (same_ref r e.0) k go

if_not : {V : Type 0} (b : Bool) (o : Option V) → is_some (cond (not b) o None) ≡ true → is_some o ≡ true
if_not true o h = cc
if_not false o h = h

pub present_known : {V : Type 0} (rs : List OutputRef) (es : Slots V) (r : OutputRef) → is_some (lookup (same_ref r) (staying rs (live es))) ≡ true → is_among (known es) r ≡ true
present_known rs es r k = live_known es r (if_not (is_among rs r) (lookup (same_ref r) (live es)) (sym (ap is_some (present_is rs (live es) r)) ∙ k))
