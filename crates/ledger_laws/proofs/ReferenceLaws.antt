-- References name one output each, since ids are used once.
use Rattle.std.proofs.Common.{◌≡◌, ℕ, zero, suc, ◌+◌, Bool, true, false, ◌||◌, ◌&&◌, cond, not, List, [], ◌∷◌, ◌++◌, refl, sym, ◌∙◌, ap, subst, arith, Option, Some, None, take, append_assoc, ◌⊎◌, inl, inr}
use Rattle.std.specs.Prelude.{◌==◌}
use Rattle.std.specs.Map.{lookup}
use Rattle.std.specs.List.{slice_get, list_any}
use Rattle.std.specs.Cmp.Lexicographic.{bytes_decides}
use Rattle.std.proofs.lemmas.Bool.{eq-eqb, ne_eqb}
use Rattle.std.proofs.lemmas.List.Folds.{list_any-append}
use Rattle.std.proofs.lemmas.Map.Entries.{lookup-filter-keys}
use Rattle.roles.specs.EutxoTypes.declared.output.Output.{Output}
use Rattle.roles.specs.EutxoTypes.declared.output_ref.OutputRef.{OutputRef}
use Rattle.roles.specs.EutxoTypes.declared.output_ref.OutputRef.TheVariants.{Genesis, Made}
use Rattle.roles.specs.EutxoTypes.declared.tx.Tx.{Tx}
use Rattle.roles.specs.EutxoTypes.Ids.{id_of}
use Rattle.roles.specs.EutxoTypes.Parts.{same_bytes, same_ref}
pub use Rattle.roles.proofs.FromEutxo.SameRefLaws.{same_ref_so, same_ref-refl}
use Rattle.ledger_laws.specs.Past.{Past, before, with_references, created_by, created_by_all, created, is_input_of, is_spent, unspent_at, has_id}
use Rattle.ledger_laws.proofs.PlainLaws.{or_false, same_some, no_more}

pub same_made : (a b : List ℕ) (i k : ℕ) → Made a i ≡ Made b k → (a ≡ b) × (i ≡ k)
same_made a b i k h = (cc, cc)

pub lookup_front : {K X : Type 0} (test : K → Bool) (es fs : List (K × X)) (v : X) → lookup test es ≡ Some v → lookup test (es ++ fs) ≡ Some v
lookup_front test [] fs v h = cc
lookup_front test (e ∷ es) fs v h = by (test e.0) h (lookup_front test es fs v)
  where
    by : (b : Bool) → cond b (Some e.1) (lookup test es) ≡ Some v → (lookup test es ≡ Some v → lookup test (es ++ fs) ≡ Some v) → cond b (Some e.1) (lookup test (es ++ fs)) ≡ Some v
    by true h go = h
    by false h go = go h

pub lookup_back : {K X : Type 0} (test : K → Bool) (es fs : List (K × X)) → lookup test es ≡ None → lookup test (es ++ fs) ≡ lookup test fs
lookup_back test [] fs h = refl
lookup_back test (e ∷ es) fs h = by (test e.0) h (lookup_back test es fs)
  where
    by : (b : Bool) → cond b (Some e.1) (lookup test es) ≡ None → (lookup test es ≡ None → lookup test (es ++ fs) ≡ lookup test fs) → cond b (Some e.1) (lookup test (es ++ fs)) ≡ lookup test fs
    by true h go = cc
    by false h go = go h

-- either list has it
front_or_back : {K X : Type 0} (test : K → Bool) (es fs gs : List (K × X)) (v : X) → (lookup test fs ≡ Some v → lookup test gs ≡ Some v) → lookup test (es ++ fs) ≡ Some v → lookup test (es ++ gs) ≡ Some v
front_or_back test [] fs gs v go h = go h
front_or_back test (e ∷ es) fs gs v go h = by (test e.0) h (front_or_back test es fs gs v go)
  where
    by : (b : Bool) → cond b (Some e.1) (lookup test (es ++ fs)) ≡ Some v → (lookup test (es ++ fs) ≡ Some v → lookup test (es ++ gs) ≡ Some v) → cond b (Some e.1) (lookup test (es ++ gs)) ≡ Some v
    by true h go = h
    by false h go = go h

-- ---- earlier pasts

made_before : (test : OutputRef → Bool) (n : ℕ) (txs : List Tx) (o : Output) → lookup test (created_by_all (take n txs)) ≡ Some o → lookup test (created_by_all txs) ≡ Some o
made_before test zero txs o h = cc
made_before test (suc n) [] o h = cc
made_before test (suc n) (tx ∷ txs) o h = front_or_back test (created_by tx) (created_by_all (take n txs)) (created_by_all txs) o (made_before test n txs o) h

-- what was created before is there
pub created_before : (past : Past) (n : ℕ) (r : OutputRef) (o : Output) → lookup (same_ref r) (created (before past n)) ≡ Some o → lookup (same_ref r) (created past) ≡ Some o
created_before past n r o h =
    front_or_back (same_ref r) (with_references (λ j. Genesis j) 0 past.genesis) (created_by_all (take n past.accepted)) (created_by_all past.accepted) o (made_before (same_ref r) n past.accepted o) h

-- what is unspent was created, and not spent
pub unspent_is : (past : Past) (r : OutputRef) → unspent_at past r ≡ cond (not (is_spent past.accepted r)) (lookup (same_ref r) (created past)) None
unspent_is past r =
    lookup-filter-keys (same_ref r) (λ q. not (is_spent past.accepted q)) (not (is_spent past.accepted r))
    (λ q h. ap (λ (s : OutputRef). not (is_spent past.accepted s)) (sym (same_ref_so r q h))) (created past)

of_cond : {A : Type 0} (b : Bool) (o : Option A) (x : A) → cond b o None ≡ Some x → (b ≡ true) × (o ≡ Some x)
of_cond true o x h = (refl, h)
of_cond false o x h = cc

-- what is unspent was created, and no transaction names it
pub unspent_so : (past : Past) (r : OutputRef) (o : Output) → unspent_at past r ≡ Some o → (is_spent past.accepted r ≡ false) × (lookup (same_ref r) (created past) ≡ Some o)
unspent_so past r o h =
    let q = of_cond (not (is_spent past.accepted r)) (lookup (same_ref r) (created past)) o (sym (unspent_is past r) ∙ h) in
    (by (is_spent past.accepted r) q.0, q.1)
  where
    by : (b : Bool) → not b ≡ true → b ≡ false
    by true e = cc
    by false e = refl

-- what was unspent before the n-th transaction was created
pub unspent_created : (past : Past) (n : ℕ) (r : OutputRef) (o : Output) → unspent_at (before past n) r ≡ Some o → lookup (same_ref r) (created past) ≡ Some o
unspent_created past n r o h =
    created_before past n r o (unspent_so (before past n) r o h).1

-- ---- the outputs of a transaction

pub and_with : (a b : Bool) → a ≡ true → a && b ≡ b
and_with true b h = refl
and_with false b h = cc

pub and_never : (a b : Bool) → a ≡ false → a && b ≡ false
and_never true b h = cc
and_never false b h = refl

pub itself : (id : List ℕ) → same_bytes id id ≡ true
itself id = (bytes_decides id id).1 refl

plus_zero : (k : ℕ) → k + 0 ≡ k
plus_zero k = omega arith

plus_suc : (k i : ℕ) → k + suc i ≡ (k + 1) + i
plus_suc k i = omega arith

not_there : (k i : ℕ) → (k + suc i == k) ≡ false
not_there k i = ne_eqb (k + suc i) k (λ e. omega (arith, e))

at_referred : (id : List ℕ) (k i : ℕ) (os : List Output) → lookup (same_ref (Made id (k + i))) (with_references (λ j. Made id j) k os) ≡ slice_get os i
at_referred id k i [] = refl
at_referred id k zero (o ∷ os) =
    ap (λ (b : Bool). cond b (Some o) (lookup (same_ref (Made id (k + 0))) (with_references (λ j. Made id j) (k + 1) os))) (and_with (same_bytes id id) (k + 0 == k) (itself id) ∙ eq-eqb (k + 0) k (plus_zero k))
at_referred id k (suc i) (o ∷ os) =
    ap (λ (b : Bool). cond b (Some o) (lookup (same_ref (Made id (k + suc i))) (with_references (λ j. Made id j) (k + 1) os))) (and_with (same_bytes id id) (k + suc i == k) (itself id) ∙ not_there k i)
    ∙ ap (λ (n : ℕ). lookup (same_ref (Made id n)) (with_references (λ j. Made id j) (k + 1) os)) (plus_suc k i)
    ∙ at_referred id (k + 1) i os

zero_plus : (i : ℕ) → i ≡ 0 + i
zero_plus i = omega arith

pub at_place : (id : List ℕ) (i : ℕ) (os : List Output) → lookup (same_ref (Made id i)) (with_references (λ j. Made id j) 0 os) ≡ slice_get os i
at_place id i os = ap (λ (n : ℕ). lookup (same_ref (Made id n)) (with_references (λ j. Made id j) 0 os)) (zero_plus i) ∙ at_referred id 0 i os

pub none_referred : (test : OutputRef → Bool) (name : ℕ → OutputRef) → ((i : ℕ) → test (name i) ≡ false) → (k : ℕ) (os : List Output) → lookup test (with_references name k os) ≡ None
none_referred test name h k [] = refl
none_referred test name h k (o ∷ os) = ap (λ (b : Bool). cond b (Some o) (lookup test (with_references name (k + 1) os))) (h k) ∙ none_referred test name h (k + 1) os

made_nth : (txs : List Tx) (n i : ℕ) (tx : Tx) (o : Output) → slice_get txs n ≡ Some tx → list_any (has_id (id_of tx)) (take n txs) ≡ false → slice_get tx.outputs i ≡ Some o → lookup (same_ref (Made (id_of tx) i)) (created_by_all txs) ≡ Some o
made_nth [] n i tx o h u g = cc
made_nth (t ∷ txs) zero i tx o h u g =
    let e : t ≡ tx = cc in
    subst (λ (z : Tx). lookup (same_ref (Made (id_of tx) i)) (created_by_all (z ∷ txs)) ≡ Some o) (sym e)
    (lookup_front (same_ref (Made (id_of tx) i)) (created_by tx) (created_by_all txs) o (at_place (id_of tx) i tx.outputs ∙ g))
made_nth (t ∷ txs) (suc n) i tx o h u g =
    let p = or_false (has_id (id_of tx) t) (list_any (has_id (id_of tx)) (take n txs)) u in
    lookup_back (same_ref (Made (id_of tx) i)) (created_by t) (created_by_all txs)
    (none_referred (same_ref (Made (id_of tx) i)) (λ j. Made (id_of t) j) (λ j. and_never (same_bytes (id_of tx) (id_of t)) (i == j) p.0) 0 t.outputs)
    ∙ made_nth txs n i tx o h p.1 g

-- an output of the n-th transaction, whose id wasn't used before, stands under its name
pub output_nth : (past : Past) (n i : ℕ) (tx : Tx) (o : Output) → slice_get past.accepted n ≡ Some tx → list_any (has_id (id_of tx)) (take n past.accepted) ≡ false → slice_get tx.outputs i ≡ Some o →
    lookup (same_ref (Made (id_of tx) i)) (created past) ≡ Some o
output_nth past n i tx o h u g =
    lookup_back (same_ref (Made (id_of tx) i)) (with_references (λ j. Genesis j) 0 past.genesis) (created_by_all past.accepted)
    (none_referred (same_ref (Made (id_of tx) i)) (λ j. Genesis j) (λ j. refl) 0 past.genesis)
    ∙ made_nth past.accepted n i tx o h u g

-- ---- who made an output

-- a transaction of these has it at a place, and the reference says so
pub record Maker (txs : List Tx) (r : OutputRef) (o : Output) : Type 0 where
  pub number : ℕ
  pub tx : Tx
  pub accepted : slice_get txs number ≡ Some tx
  pub index : ℕ
  pub made : slice_get tx.outputs index ≡ Some o
  pub name : r ≡ Made (id_of tx) index

-- where a list of outputs with references has one
pub in_referred : (name : ℕ → OutputRef) (r : OutputRef) (k : ℕ) (os : List Output) (o : Output) → lookup (same_ref r) (with_references name k os) ≡ Some o → (i : ℕ) × (slice_get os i ≡ Some o) × (r ≡ name (k + i))
in_referred name r k [] o h = cc
in_referred name r k (x ∷ os) o h = by (same_ref r (name k)) refl h (in_referred name r (k + 1) os o)
  where
    by : (b : Bool) → same_ref r (name k) ≡ b → cond b (Some x) (lookup (same_ref r) (with_references name (k + 1) os)) ≡ Some o →
        (lookup (same_ref r) (with_references name (k + 1) os) ≡ Some o → (i : ℕ) × (slice_get os i ≡ Some o) × (r ≡ name ((k + 1) + i))) → (i : ℕ) × (slice_get (x ∷ os) i ≡ Some o) × (r ≡ name (k + i))
    by true e h go = (0, h, same_ref_so r (name k) e ∙ ap name (sym (plus_zero k)))
    by false e h go = let q = go h in (suc q.0, q.1, q.2 ∙ ap name (sym (plus_suc k q.0)))

made_maker : (r : OutputRef) (txs : List Tx) (o : Output) → lookup (same_ref r) (created_by_all txs) ≡ Some o → Maker txs r o
made_maker r [] o h = cc
made_maker r (tx ∷ txs) o h = by (lookup (same_ref r) (created_by tx)) refl (made_maker r txs o)
  where
    by : (z : Option Output) → lookup (same_ref r) (created_by tx) ≡ z → (lookup (same_ref r) (created_by_all txs) ≡ Some o → Maker txs r o) → Maker (tx ∷ txs) r o
    by None e go =
        let m = go (sym (lookup_back (same_ref r) (created_by tx) (created_by_all txs) e) ∙ h) in
        record { number = suc m.number; tx = m.tx; accepted = m.accepted; index = m.index; made = m.made; name = m.name }
    by (Some x) e go =
        let same : x ≡ o = same_some x o (sym (lookup_front (same_ref r) (created_by tx) (created_by_all txs) x e) ∙ h) in
        let q = in_referred (λ j. Made (id_of tx) j) r 0 tx.outputs x e in
        record { number = 0; tx = tx; accepted = refl; index = q.0; made = q.1 ∙ ap Some same; name = q.2 ∙ ap (λ (j : ℕ). Made (id_of tx) j) (sym (zero_plus q.0)) }

-- what was created was there at first, or a transaction made it
pub maker : (past : Past) (r : OutputRef) (o : Output) → lookup (same_ref r) (created past) ≡ Some o → ((i : ℕ) × (slice_get past.genesis i ≡ Some o)) ⊎ Maker past.accepted r o
maker past r o h = by (lookup (same_ref r) (with_references (λ j. Genesis j) 0 past.genesis)) refl
  where
    by : (z : Option Output) → lookup (same_ref r) (with_references (λ j. Genesis j) 0 past.genesis) ≡ z → ((i : ℕ) × (slice_get past.genesis i ≡ Some o)) ⊎ Maker past.accepted r o
    by None e = inr (made_maker r past.accepted o (sym (lookup_back (same_ref r) (with_references (λ j. Genesis j) 0 past.genesis) (created_by_all past.accepted) e) ∙ h))
    by (Some x) e =
        let same : x ≡ o = same_some x o (sym (lookup_front (same_ref r) (with_references (λ j. Genesis j) 0 past.genesis) (created_by_all past.accepted) x e) ∙ h) in
        let q = in_referred (λ j. Genesis j) r 0 past.genesis x e in
        inl (q.0, q.1 ∙ ap Some same)

-- ---- one transaction more

made_push : (txs : List Tx) (tx : Tx) → created_by_all (txs ++ tx ∷ []) ≡ created_by_all txs ++ created_by tx
made_push [] tx = no_more (created_by tx)
made_push (x ∷ txs) tx = ap (λ l. created_by x ++ l) (made_push txs tx) ∙ sym (append_assoc (created_by x) (created_by_all txs) (created_by tx))

pub created_grown : (past : Past) (txs : List Tx) (tx : Tx) → created (record past { accepted = txs ++ tx ∷ [] }) ≡ created (record past { accepted = txs }) ++ created_by tx
created_grown past txs tx =
    ap (λ l. with_references (λ j. Genesis j) 0 past.genesis ++ l) (made_push txs tx) ∙ sym (append_assoc (with_references (λ j. Genesis j) 0 past.genesis) (created_by_all txs) (created_by tx))

-- ---- what an id names

none_made : (id : List ℕ) (i : ℕ) (txs : List Tx) → list_any (has_id id) txs ≡ false → lookup (same_ref (Made id i)) (created_by_all txs) ≡ None
none_made id i [] h = refl
none_made id i (tx ∷ txs) h =
    let q = or_false (has_id id tx) (list_any (has_id id) txs) h in
    lookup_back (same_ref (Made id i)) (created_by tx) (created_by_all txs)
    (none_referred (same_ref (Made id i)) (λ j. Made (id_of tx) j) (λ j. and_never (same_bytes id (id_of tx)) _ q.0) 0 tx.outputs)
    ∙ none_made id i txs q.1

pub none_created : (past : Past) (id : List ℕ) (i : ℕ) → list_any (has_id id) past.accepted ≡ false → lookup (same_ref (Made id i)) (created past) ≡ None
none_created past id i h =
    lookup_back (same_ref (Made id i)) (with_references (λ j. Genesis j) 0 past.genesis) (created_by_all past.accepted)
    (none_referred (same_ref (Made id i)) (λ j. Genesis j) (λ j. refl) 0 past.genesis)
    ∙ none_made id i past.accepted h

pub spender : (r : OutputRef) (txs : List Tx) → is_spent txs r ≡ true → (n : ℕ) × (t : Tx) × (slice_get txs n ≡ Some t) × (is_input_of r t ≡ true)
spender r [] h = cc
spender r (t ∷ txs) h = by (is_input_of r t) refl h (spender r txs)
  where
    by : (b : Bool) → is_input_of r t ≡ b → (b || is_spent txs r) ≡ true → (is_spent txs r ≡ true → (n : ℕ) × (t : Tx) × (slice_get txs n ≡ Some t) × (is_input_of r t ≡ true)) → (n : ℕ) × (u : Tx) × (slice_get (t ∷ txs) n ≡ Some u) × (is_input_of r u ≡ true)
    by true e h go = (0, t, refl, e)
    by false e h go = let q = go h in (suc q.0, q.1, q.2, q.3)

-- ---- what one transaction more spends

or_none : (b : Bool) → b || false ≡ b
or_none true = refl
or_none false = refl

pub spent_more : (txs : List Tx) (tx : Tx) (r : OutputRef) → is_spent (txs ++ tx ∷ []) r ≡ (is_spent txs r || is_input_of r tx)
spent_more txs tx r = list_any-append (is_input_of r) txs (tx ∷ []) ∙ ap (λ (b : Bool). is_spent txs r || b) (or_none (is_input_of r tx))
