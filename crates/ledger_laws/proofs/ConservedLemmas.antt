-- Of each token the unspent outputs hold what the first outputs held.
use Rattle.std.proofs.Common.{◌≡◌, ℕ, suc, ◌+◌, ◌<◌, Bool, true, false, not, ◌||◌, cond, ℤ, pos, ◌+ℤ◌, List, [], ◌∷◌, ◌++◌, refl, sym, ◌∙◌, ap, arith, Option, Some, None, take}
use Rattle.std.specs.Prelude.{filter, ◌==◌}
use Rattle.std.specs.List.{list_any, slice_get}
use Rattle.std.specs.Map.{lookup}
use Rattle.std.specs.Cmp.Lexicographic.{bytes_decides}
use Rattle.std.proofs.lemmas.Int.{ints}
use Rattle.std.proofs.lemmas.Bool.{ne_eqb}
use Rattle.contract.specs.Collections.Total.{total}
use Rattle.roles.specs.EutxoTypes.declared.output.Output.{Output}
use Rattle.roles.specs.EutxoTypes.declared.output_ref.OutputRef.{OutputRef}
use Rattle.roles.specs.EutxoTypes.declared.output_ref.OutputRef.TheVariants.{Genesis, Made}
use Rattle.roles.specs.EutxoTypes.declared.spend.Spend.{Spend}
use Rattle.roles.specs.EutxoTypes.declared.tx.Tx.{Tx}
use Rattle.roles.specs.EutxoTypes.Ids.{id_of}
use Rattle.roles.specs.Eutxo.Faults.{first_index}
use Rattle.roles.specs.Eutxo.Rules.{is_repeated}
use Rattle.roles.specs.EutxoTypes.Parts.{same_bytes, same_ref}
use Rattle.ledger_laws.specs.Past.{Past, with_references, created_by, created_by_all, created, is_input_of, is_spent, unspent, unspent_at, has_id}
use Rattle.ledger_laws.proofs.PlainLaws.{EachFalse, or_false}
use Rattle.ledger_laws.proofs.FreshLemmas.{Fresh, fresh}
use Rattle.ledger_laws.proofs.ReferenceLaws.{spent_more, same_ref_so, same_ref-refl, lookup_back, none_referred, and_never, and_with, itself}

turned : (a b : List ℕ) → same_bytes a b ≡ false → same_bytes b a ≡ false
turned a b h = by (same_bytes b a) refl
  where
    by : (c : Bool) → same_bytes b a ≡ c → c ≡ false
    by true e = let f : a ≡ b = sym ((bytes_decides b a).0 e) in let g : true ≡ false = sym ((bytes_decides a b).1 f) ∙ h in cc
    by false e = refl

abbrev pub Counts : (ℕ → OutputRef) → Type 0
Counts name = (i j : ℕ) → same_ref (name i) (name j) ≡ (i == j)

-- ---- references that differ

-- no entry has the reference of a later one
abbrev pub Distinct : List (OutputRef × Output) → Type 0
Distinct [] = Unit {0}
Distinct (e ∷ es) = (lookup (same_ref e.0) es ≡ None) × Distinct es

below_eq : (i k : ℕ) → i < k → (i == k) ≡ false
below_eq i k h = ne_eqb i k (λ e. omega (arith, e))

next_below : (i k : ℕ) → i < k → i < k + 1
next_below i k h = omega arith

none_above : (name : ℕ → OutputRef) → Counts name → (i k : ℕ) → i < k → (os : List Output) → lookup (same_ref (name i)) (with_references name k os) ≡ None
none_above name c i k h [] = refl
none_above name c i k h (o ∷ os) =
    ap (λ (b : Bool). cond b (Some o) (lookup (same_ref (name i)) (with_references name (k + 1) os))) (c i k ∙ below_eq i k h)
    ∙ none_above name c i (k + 1) (next_below i k h) os

after_it : (n : ℕ) → n < n + 1
after_it n = omega arith

distinct_referred : (name : ℕ → OutputRef) → Counts name → (k : ℕ) (os : List Output) (es : List (OutputRef × Output)) →
    ((i : ℕ) → lookup (same_ref (name i)) es ≡ None) → Distinct es → Distinct (with_references name k os ++ es)
distinct_referred name c k [] es none d = d
distinct_referred name c k (o ∷ os) es none d =
    (lookup_back (same_ref (name k)) (with_references name (k + 1) os) es (none_above name c k (k + 1) (after_it k) os) ∙ none k, distinct_referred name c (k + 1) os es none d)

-- no two of these have one id
abbrev pub IdsApart : List Tx → Type 0
IdsApart [] = Unit {0}
IdsApart (tx ∷ txs) = EachFalse (λ u. same_bytes (id_of tx) (id_of u)) txs × IdsApart txs

-- no transaction of another id makes it
none_made : (id : List ℕ) (i : ℕ) (txs : List Tx) → EachFalse (λ u. same_bytes id (id_of u)) txs → lookup (same_ref (Made id i)) (created_by_all txs) ≡ None
none_made id i [] h = refl
none_made id i (tx ∷ txs) h =
    lookup_back (same_ref (Made id i)) (created_by tx) (created_by_all txs)
    (none_referred (same_ref (Made id i)) (λ j. Made (id_of tx) j) (λ j. and_never (same_bytes id (id_of tx)) (i == j) h.0) 0 tx.outputs)
    ∙ none_made id i txs h.1

never_made : (i : ℕ) (txs : List Tx) → lookup (same_ref (Genesis i)) (created_by_all txs) ≡ None
never_made i [] = refl
never_made i (tx ∷ txs) =
    lookup_back (same_ref (Genesis i)) (created_by tx) (created_by_all txs) (none_referred (same_ref (Genesis i)) (λ j. Made (id_of tx) j) (λ j. refl) 0 tx.outputs) ∙ never_made i txs

distinct_made : (txs : List Tx) → IdsApart txs → Distinct (created_by_all txs)
distinct_made [] h = tt
distinct_made (tx ∷ txs) h =
    distinct_referred (λ j. Made (id_of tx) j) (λ i j. and_with (same_bytes (id_of tx) (id_of tx)) (i == j) (itself (id_of tx))) 0 tx.outputs (created_by_all txs) (λ i. none_made (id_of tx) i txs h.0) (distinct_made txs h.1)

pub distinct_created : (past : Past) → IdsApart past.accepted → Distinct (created past)
distinct_created past h =
    distinct_referred (λ j. Genesis j) (λ i j. refl) 0 past.genesis (created_by_all past.accepted) (λ i. never_made i past.accepted) (distinct_made past.accepted h)

apart_from : (id : List ℕ) (txs : List Tx) → ((n : ℕ) (tx : Tx) → slice_get txs n ≡ Some tx → same_bytes (id_of tx) id ≡ false) → EachFalse (λ u. same_bytes id (id_of u)) txs
apart_from id [] h = tt
apart_from id (x ∷ txs) h = (turned (id_of x) id (h 0 x refl), apart_from id txs (λ n t e. h (suc n) t e))

-- where each id is new among those before it, no two are one
pub ids_apart : (txs : List Tx) → ((n : ℕ) (tx : Tx) → slice_get txs n ≡ Some tx → list_any (has_id (id_of tx)) (take n txs) ≡ false) → IdsApart txs
ids_apart [] h = tt
ids_apart (x ∷ txs) h = (
  apart_from (id_of x) txs (λ n t e. (or_false (has_id (id_of t) x) (list_any (has_id (id_of t)) (take n txs)) (h (suc n) t e)).0),
  ids_apart txs (λ n t e. (or_false (has_id (id_of t) x) (list_any (has_id (id_of t)) (take n txs)) (h (suc n) t e)).1),
)

none_filtered : (test : OutputRef → Bool) (p : OutputRef × Output → Bool) (es : List (OutputRef × Output)) → lookup test es ≡ None → lookup test (filter p es) ≡ None
none_filtered test p [] h = h
none_filtered test p (e ∷ es) h = by (test e.0) refl (p e) h (none_filtered test p es)
  where
    by : (b : Bool) → test e.0 ≡ b → (c : Bool) → cond b (Some e.1) (lookup test es) ≡ None → (lookup test es ≡ None → lookup test (filter p es) ≡ None) → lookup test (cond c (e ∷ filter p es) (filter p es)) ≡ None
    by true t c h go = cc
    by false t true h go = ap (λ (b : Bool). cond b (Some e.1) (lookup test (filter p es))) t ∙ go h
    by false t false h go = go h

distinct_filtered : (p : OutputRef × Output → Bool) (es : List (OutputRef × Output)) → Distinct es → Distinct (filter p es)
distinct_filtered p [] d = tt
distinct_filtered p (e ∷ es) d = by (p e) (none_filtered (same_ref e.0) p es d.0) (distinct_filtered p es d.1)
  where
    by : (b : Bool) → lookup (same_ref e.0) (filter p es) ≡ None → Distinct (filter p es) → Distinct (cond b (e ∷ filter p es) (filter p es))
    by true n d = (n, d)
    by false n d = d

module _ (worth : Output → ℤ) where
  -- ---- taking one output out

  abbrev pub worth_of : Option Output → ℤ
  worth_of None = pos 0
  worth_of (Some o) = worth o

  abbrev pub amount_in : OutputRef × Output → ℤ
  amount_in e = worth e.1

  -- the entries of the other references
  abbrev pub others : OutputRef → List (OutputRef × Output) → List (OutputRef × Output)
  others r es = filter (λ e. not (same_ref r e.0)) es

  none_out : (r : OutputRef) (es : List (OutputRef × Output)) → lookup (same_ref r) es ≡ None → others r es ≡ es
  none_out r [] h = refl
  none_out r (e ∷ es) h = by (same_ref r e.0) h (none_out r es)
    where
      by : (b : Bool) → cond b (Some e.1) (lookup (same_ref r) es) ≡ None → (lookup (same_ref r) es ≡ None → others r es ≡ es) → cond (not b) (e ∷ others r es) (others r es) ≡ e ∷ es
      by true h go = cc
      by false h go = ap (λ (l : List _). e ∷ l) (go h)

  swap : (a s : ℤ) → s +ℤ a ≡ a +ℤ s
  swap a s = omega (arith, ints)

  regroup : (a s t u : ℤ) → s +ℤ t ≡ u → (a +ℤ s) +ℤ t ≡ a +ℤ u
  regroup a s t u h = omega (arith, ints)

  one_out : (r : OutputRef) (es : List (OutputRef × Output)) → Distinct es → total amount_in (others r es) +ℤ worth_of (lookup (same_ref r) es) ≡ total amount_in es
  one_out r [] d = refl
  one_out r (e ∷ es) d = by (same_ref r e.0) refl (one_out r es d.1)
    where
      by : (b : Bool) → same_ref r e.0 ≡ b → total amount_in (others r es) +ℤ worth_of (lookup (same_ref r) es) ≡ total amount_in es →
          total amount_in (cond (not b) (e ∷ others r es) (others r es)) +ℤ worth_of (cond b (Some e.1) (lookup (same_ref r) es)) ≡ worth e.1 +ℤ total amount_in es
      by true t go =
          let q : r ≡ e.0 = same_ref_so r e.0 t in
          ap (λ (l : List (OutputRef × Output)). total amount_in l +ℤ worth e.1) (none_out r es (ap (λ (k : OutputRef). lookup (same_ref k) es) q ∙ d.0)) ∙ swap (worth e.1) (total amount_in es)
      by false t go = regroup (worth e.1) (total amount_in (others r es)) (worth_of (lookup (same_ref r) es)) (total amount_in es) go

  -- another reference finds what it found
  other_stays : (r q : OutputRef) (es : List (OutputRef × Output)) → same_ref r q ≡ false → lookup (same_ref q) (others r es) ≡ lookup (same_ref q) es
  other_stays r q [] h = refl
  other_stays r q (e ∷ es) h = by (same_ref r e.0) refl (same_ref q e.0) refl (other_stays r q es h)
    where
      by : (b : Bool) → same_ref r e.0 ≡ b → (c : Bool) → same_ref q e.0 ≡ c → lookup (same_ref q) (others r es) ≡ lookup (same_ref q) es →
          lookup (same_ref q) (cond (not b) (e ∷ others r es) (others r es)) ≡ cond c (Some e.1) (lookup (same_ref q) es)
      by true t true u go =
          let a : r ≡ e.0 = same_ref_so r e.0 t in
          let b : q ≡ e.0 = same_ref_so q e.0 u in
          let same : same_ref r q ≡ true = ap (λ (k : OutputRef). same_ref r k) (b ∙ sym a) ∙ same_ref-refl r in
          let f : true ≡ false = sym same ∙ h in cc
      by true t false u go = go
      by false t c u go = ap (λ (b : Bool). cond b (Some e.1) (lookup (same_ref q) (others r es))) u ∙ ap (λ (o : Option (Output)). cond c (Some e.1) o) go

  -- ---- taking out what the inputs name

  -- whether an input of these names it
  abbrev pub named_in : List Spend → OutputRef → Bool
  named_in xs r = list_any (λ x. same_ref x.reference r) xs

  all_left : (es : List (OutputRef × Output)) → filter (λ e. not (named_in [] e.0)) es ≡ es
  all_left [] = refl
  all_left (e ∷ es) = ap (λ (l : List _). e ∷ l) (all_left es)

  -- two filters in a row
  twice : (p q : OutputRef → Bool) (es : List (OutputRef × Output)) → filter (λ e. not (p e.0 || q e.0)) es ≡ filter (λ e. not (q e.0)) (filter (λ e. not (p e.0)) es)
  twice p q [] = refl
  twice p q (e ∷ es) = by (p e.0) (q e.0) refl (twice p q es)
    where
      by : (b c : Bool) → q e.0 ≡ c → filter (λ e. not (p e.0 || q e.0)) es ≡ filter (λ e. not (q e.0)) (filter (λ e. not (p e.0)) es) →
          cond (not (b || c)) (e ∷ filter (λ e. not (p e.0 || q e.0)) es) (filter (λ e. not (p e.0 || q e.0)) es) ≡ filter (λ e. not (q e.0)) (cond (not b) (e ∷ filter (λ e. not (p e.0)) es) (filter (λ e. not (p e.0)) es))
      by true c u go = go
      by false true u go = go ∙ sym (ap (λ (b : Bool). cond (not b) (e ∷ filter (λ e. not (q e.0)) (filter (λ e. not (p e.0)) es)) (filter (λ e. not (q e.0)) (filter (λ e. not (p e.0)) es))) u)
      by false false u go =
          ap (λ (l : List _). e ∷ l) go ∙ sym (ap (λ (b : Bool). cond (not b) (e ∷ filter (λ e. not (q e.0)) (filter (λ e. not (p e.0)) es)) (filter (λ e. not (q e.0)) (filter (λ e. not (p e.0)) es))) u)

  amounts_stay : (r : OutputRef) (es : List (OutputRef × Output)) (xs : List Spend) → EachFalse (λ y. same_ref r y.reference) xs →
      total (λ y. worth_of (lookup (same_ref y.reference) (others r es))) xs ≡ total (λ y. worth_of (lookup (same_ref y.reference) es)) xs
  amounts_stay r es [] h = refl
  amounts_stay r es (y ∷ ys) h =
      ap (λ (o : Option Output). worth_of o +ℤ total (λ y. worth_of (lookup (same_ref y.reference) (others r es))) ys) (other_stays r y.reference es h.0)
      ∙ ap (λ (z : ℤ). worth_of (lookup (same_ref y.reference) es) +ℤ z) (amounts_stay r es ys h.1)

  plus_nothing : (s : ℤ) → s +ℤ pos 0 ≡ s
  plus_nothing s = omega (arith, ints)

  both_out : (s i j a u v : ℤ) → s +ℤ i ≡ u → i ≡ j → u +ℤ a ≡ v → s +ℤ (a +ℤ j) ≡ v
  both_out s i j a u v h e k = omega (arith, ints, h, e, k)

  pub all_out : (xs : List Spend) → Fresh xs → (es : List (OutputRef × Output)) → Distinct es →
      total amount_in (filter (λ e. not (named_in xs e.0)) es) +ℤ total (λ x. worth_of (lookup (same_ref x.reference) es)) xs ≡ total amount_in es
  all_out [] f es d = ap (λ (l : List _). total amount_in l +ℤ pos 0) (all_left es) ∙ plus_nothing (total amount_in es)
  all_out (x ∷ xs) f es d =
      let r = x.reference in
      ap (λ (l : List _). total amount_in l +ℤ (worth_of (lookup (same_ref r) es) +ℤ total (λ y. worth_of (lookup (same_ref y.reference) es)) xs)) (twice (same_ref r) (named_in xs) es)
      ∙ both_out (total amount_in (filter (λ e. not (named_in xs e.0)) (others r es))) (total (λ y. worth_of (lookup (same_ref y.reference) (others r es))) xs) (total (λ y. worth_of (lookup (same_ref y.reference) es)) xs)
      (worth_of (lookup (same_ref r) es)) (total amount_in (others r es)) (total amount_in es)
      (all_out xs f.1 (others r es) (distinct_filtered (λ e. not (same_ref r e.0)) es d)) (amounts_stay r es xs f.0) (one_out r es d)

  -- ---- a transaction

  same_filter : (p q : OutputRef → Bool) (es : List (OutputRef × Output)) → ((r : OutputRef) → p r ≡ q r) → filter (λ e. not (p e.0)) es ≡ filter (λ e. not (q e.0)) es
  same_filter p q es h = ap (λ (f : OutputRef → Bool). filter (λ e. not (f e.0)) es) (λ i r. h r i)

  filter_append : {A : Type 0} (p : A → Bool) (xs ys : List A) → filter p (xs ++ ys) ≡ filter p xs ++ filter p ys
  filter_append p [] ys = refl
  filter_append p (x ∷ xs) ys = by (p x) (filter_append p xs ys)
    where
      by : (b : Bool) → filter p (xs ++ ys) ≡ filter p xs ++ filter p ys → cond b (x ∷ filter p (xs ++ ys)) (filter p (xs ++ ys)) ≡ cond b (x ∷ filter p xs) (filter p xs) ++ filter p ys
      by true e = ap (λ (l : List _). x ∷ l) e
      by false e = e

  sum_append : {A : Type 0} (f : A → ℤ) (xs ys : List A) → total f (xs ++ ys) ≡ total f xs +ℤ total f ys
  sum_append f [] ys = zero_plus_z (total f ys)
    where
      zero_plus_z : (s : ℤ) → s ≡ pos 0 +ℤ s
      zero_plus_z s = omega (arith, ints)
  sum_append f (x ∷ xs) ys = ap (λ (z : ℤ). f x +ℤ z) (sum_append f xs ys) ∙ three (f x) (total f xs) (total f ys)
    where
      three : (a b c : ℤ) → a +ℤ (b +ℤ c) ≡ (a +ℤ b) +ℤ c
      three a b c = omega (arith, ints)

  -- all of a list's outputs are unspent, and their sum is that of the list
  pub sum_new : (name : ℕ → OutputRef) (p : OutputRef → Bool) → ((i : ℕ) → p (name i) ≡ false) → (k : ℕ) (os : List Output) → total amount_in (filter (λ e. not (p e.0)) (with_references name k os)) ≡ total worth os
  sum_new name p h k [] = refl
  sum_new name p h k (o ∷ os) =
      ap (λ (b : Bool). total amount_in (cond (not b) ((name k, o) ∷ filter (λ e. not (p e.0)) (with_references name (k + 1) os)) (filter (λ e. not (p e.0)) (with_references name (k + 1) os)))) (h k)
      ∙ ap (λ (z : ℤ). worth o +ℤ z) (sum_new name p h (k + 1) os)

  balance : (left ins outs before : ℤ) → left +ℤ ins ≡ before → ins ≡ outs → left +ℤ outs ≡ before
  balance left ins outs before h e = omega (arith, ints, h, e)

  -- an accepted transaction whose inputs hold what its outputs hold leaves the sum
  pub preserved_so : (past : Past) (tx : Tx) → IdsApart past.accepted → first_index (is_repeated tx.inputs) 0 tx.inputs ≡ None →
      total (λ x. worth_of (unspent_at past x.reference)) tx.inputs ≡ total worth tx.outputs →
      ((i : ℕ) → is_spent (past.accepted ++ tx ∷ []) (Made (id_of tx) i) ≡ false) →
      total amount_in (filter (λ e. not (is_spent (past.accepted ++ tx ∷ []) e.0)) (created past ++ created_by tx)) ≡ total amount_in (unspent past)
  preserved_so past tx apart f s n =
      let p : OutputRef → Bool = is_spent (past.accepted ++ tx ∷ []) in
      let gone : filter (λ e. not (p e.0)) (created past) ≡ filter (λ e. not (named_in tx.inputs e.0)) (unspent past) =
      same_filter p (λ r. is_spent past.accepted r || is_input_of r tx) (created past) (spent_more past.accepted tx) ∙ twice (is_spent past.accepted) (λ r. is_input_of r tx) (created past) in
      let ins : ℤ = total (λ x. worth_of (unspent_at past x.reference)) tx.inputs in
      let outs : ℤ = total worth tx.outputs in
      ap (λ (l : List (OutputRef × Output)). total amount_in l) (filter_append (λ e. not (p e.0)) (created past) (created_by tx))
      ∙ sum_append amount_in (filter (λ e. not (p e.0)) (created past)) (filter (λ e. not (p e.0)) (created_by tx))
      ∙ ap (λ (z : ℤ). total amount_in (filter (λ e. not (p e.0)) (created past)) +ℤ z) (sum_new (λ j. Made (id_of tx) j) p n 0 tx.outputs)
      ∙ ap (λ (l : List (OutputRef × Output)). total amount_in l +ℤ outs) gone
      ∙ balance (total amount_in (filter (λ e. not (named_in tx.inputs e.0)) (unspent past))) ins outs (total amount_in (unspent past))
      (all_out tx.inputs (fresh tx.inputs f) (unspent past) (distinct_filtered (λ e. not (is_spent past.accepted e.0)) (created past) (distinct_created past apart)))
      s
