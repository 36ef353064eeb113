-- Which places the entries have that a look shows.
use Rattle.std.proofs.Common.{◌≡◌, ℕ, zero, suc, ◌+◌, ◌<◌, arith, Bool, true, false, ◌&&◌, ◌||◌, not, cond, List, [], ◌∷◌, refl, sym, ◌∙◌, ap, subst, length, drop, get_or, Option, Some, None}
use Rattle.std.specs.List.{slice_get, IsDistinct, AllByRecursion}
use Rattle.std.specs.Map.{lookup, lookup_key, keys_of}
use Rattle.std.specs.Ordering.{nat_cmp}
use Rattle.std.specs.BTreeMap.{is_at}
use Rattle.std.proofs.lemmas.Bool.Decides.{nat_tests}
use Rattle.std.proofs.lemmas.List.{drop_more}
use Rattle.std.proofs.lemmas.Map.Keys.{IsDistinct-head, IsDistinct-tail}
use Rattle.std.proofs.lemmas.Map.Made.{lookup_key_passes}
use Rattle.ledger_spec.specs.EutxoTypes.declared.lock.Lock.{Lock}
use Rattle.ledger_spec.specs.EutxoTypes.declared.lock.Lock.TheVariants.{Key, Payout, Contract}
use Rattle.ledger_spec.specs.EutxoTypes.declared.output.Output.{Output}
use Rattle.ledger_spec.specs.EutxoTypes.declared.output_ref.OutputRef.{OutputRef}
use Rattle.ledger_spec.specs.EutxoTypes.Parts.{same_ref}
use Rattle.ledger_spec.specs.EutxoTypes.contracts.output_ref.OutputRefPartialEq.TheImpl.{ghosts}
use Rattle.indexmap.specs.IndexSet.{IndexSet}
use Rattle.ledger_spec.specs.Ledger.declared.ask.PayoutLock.{PayoutLock}
use Rattle.ledger_spec.proofs.FromLedgerLaws.PlainLaws.{same_some, not_both}
use Rattle.ledger_spec.proofs.FromLedgerLaws.ReferenceLaws.{same_ref_so, same_ref-refl}
use Rattle.ledger_spec.specs.Views.{is_key_of, is_payout_of}
use Rattle.chain_index.specs.declared.lock_name.LockName.{LockName}
use Rattle.chain_index.specs.declared.lock_name.LockName.TheVariants.{Address, Role}
use Rattle.chain_index.specs.Contents.{is_among}
use Rattle.chain_index.specs.HolesSupport.{live}
use Rattle.chain_index.specs.LocksSupport.{is_named, is_under, is_listed, AreListed}
use Rattle.chain_index.specs.UnderLocksSupport.{is_asked, is_shown, passes, passes_at}
use Rattle.chain_index.proofs.LiveLemmas.{inside, lookup_live}
use Rattle.chain_index.proofs.RefLemmas.{eq_same, flips, and_none, and_one}

abbrev Entry : Type 0
Entry = OutputRef × Option Output

-- ---- tests of one entry

-- two tests agree where they do so at each entry
pub passes_same : (p q : Entry → Bool) → ((e : Entry) → p e ≡ q e) → (o : Option Entry) → passes p o ≡ passes q o
passes_same p q h None = refl
passes_same p q h (Some e) = h e

passes_or : (p q s : Entry → Bool) → ((e : Entry) → p e ≡ (q e || s e)) → (o : Option Entry) → passes p o ≡ (passes q o || passes s o)
passes_or p q s h None = refl
passes_or p q s h (Some e) = h e

or_and : (a b c : Bool) → (a || b) && c ≡ (a && c) || (b && c)
or_and true true true = refl
or_and true true false = refl
or_and true false true = refl
or_and true false false = refl
or_and false b c = refl

-- what is left and what has come, one step on
step : (all left one before after : Bool) → all ≡ (one || left) → after ≡ (one || before) → (all || before) ≡ (left || after)
step all left one before after h k = ap (λ b. b || before) h ∙ by one left before ∙ ap (λ b. left || b) (sym k)
  where
    by : (a b c : Bool) → ((a || b) || c) ≡ (b || (a || c))
    by true true c = refl
    by true false c = refl
    by false b c = refl

-- ---- one reference

apart_at : (k : OutputRef) (es : List Entry) (i : ℕ) (e : Entry) → AllByRecursion (λ y. same_ref k y ≡ false) (keys_of es) → slice_get es i ≡ Some e → same_ref k e.0 ≡ false
apart_at k [] i e h at = cc
apart_at k (x ∷ xs) zero e h at = ap (λ (y : Entry). same_ref k y.0) (sym (same_some x e at)) ∙ h.0
apart_at k (x ∷ xs) (suc i) e h at = apart_at k xs i e h.1 at

-- entries at two places have two references
one_place : (es : List Entry) (i j : ℕ) (d e : Entry) → IsDistinct same_ref (keys_of es) → slice_get es i ≡ Some d → slice_get es j ≡ Some e → d.0 ≡ e.0 → i ≡ j
one_place [] i j d e u at there same = cc
one_place (x ∷ xs) zero zero d e u at there same = refl
one_place (x ∷ xs) zero (suc j) d e u at there same =
    absurd (not_both (same_ref-refl d.0)
    (ap (same_ref d.0) same ∙ ap (λ (y : Entry). same_ref y.0 e.0) (sym (same_some x d at)) ∙ apart_at x.0 xs j e (IsDistinct-head same_ref x.0 (keys_of xs) u) there))
one_place (x ∷ xs) (suc i) zero d e u at there same =
    absurd (not_both (same_ref-refl e.0)
    (ap (same_ref e.0) (sym same) ∙ ap (λ (y : Entry). same_ref y.0 d.0) (sym (same_some x e there)) ∙ apart_at x.0 xs i d (IsDistinct-head same_ref x.0 (keys_of xs) u) at))
one_place (x ∷ xs) (suc i) (suc j) d e u at there same = ap suc (one_place xs i j d e (IsDistinct-tail same_ref x.0 (keys_of xs) u) at there same)

-- ---- tests of places

pub place_so : (i j : ℕ) → is_at (nat_cmp i) j ≡ true → i ≡ j
place_so i j h = grind (arith, nat_tests)

pub place_itself : (i : ℕ) → is_at (nat_cmp i) i ≡ true
place_itself i = grind (arith, nat_tests)

pub place_apart : (i j : ℕ) → i < j → is_at (nat_cmp i) j ≡ false
place_apart i j h = grind (arith, nat_tests)

pub place_flips : (i j : ℕ) → is_at (nat_cmp i) j ≡ is_at (nat_cmp j) i
place_flips i j = grind (arith, nat_tests)

-- the place of an entry that a reference names, where it passes a test
pub found_place : (p : Entry → Bool) (r : OutputRef) (es : List Entry) (j : ℕ) (e : Entry) → IsDistinct same_ref (keys_of es) → slice_get es j ≡ Some e → same_ref r e.0 ≡ true →
    (i : ℕ) → (is_at (nat_cmp j) i && p e) ≡ passes_at (λ x. same_ref x.0 r && p x) es i
found_place p r es j e u there named i = by (is_at (nat_cmp j) i) refl (slice_get es i) refl
  where
    test : Entry → Bool
    test = λ x. same_ref x.0 r && p x

    name : r ≡ e.0
    name = same_ref_so r e.0 named

    here : test e ≡ p e
    here = ap (λ b. b && p e) (ap (same_ref e.0) name ∙ same_ref-refl e.0)

    other : (d : Entry) → slice_get es i ≡ Some d → is_at (nat_cmp j) i ≡ false → (c : Bool) → same_ref d.0 r ≡ c → c && p d ≡ false
    other d at n true q = absurd (not_both (place_itself i) (ap (λ k. is_at (nat_cmp k) i) (one_place es i j d e u at there (same_ref_so d.0 r q ∙ name)) ∙ n))
    other d at n false q = refl

    by : (b : Bool) → is_at (nat_cmp j) i ≡ b → (o : Option Entry) → slice_get es i ≡ o → (b && p e) ≡ passes test o
    by true h o at = sym (ap (passes test) (sym at ∙ ap (slice_get es) (sym (place_so j i h)) ∙ there) ∙ here)
    by false h None at = refl
    by false h (Some d) at = sym (ap (λ b. b && p d) refl ∙ other d at h (same_ref d.0 r) refl)

-- no entry is named
pub no_place : (p : Entry → Bool) (r : OutputRef) (es : List Entry) → lookup (same_ref r) es ≡ None → (i : ℕ) → false ≡ passes_at (λ x. same_ref x.0 r && p x) es i
no_place p r [] h i = refl
no_place p r (x ∷ xs) h i = by (same_ref r x.0) refl h (no_place p r xs) i
  where
    by : (b : Bool) → same_ref r x.0 ≡ b → cond b (Some x.1) (lookup (same_ref r) xs) ≡ None → (lookup (same_ref r) xs ≡ None → (k : ℕ) → false ≡ passes_at (λ y. same_ref y.0 r && p y) xs k) →
        (k : ℕ) → false ≡ passes_at (λ y. same_ref y.0 r && p y) (x ∷ xs) k
    by true e k go n = cc
    by false e k go zero = sym (ap (λ b. b && p x) (flips x.0 r ∙ e))
    by false e k go (suc n) = go k n

-- what a map's look-up tells of it
module _ (p : Entry → Bool) (r : OutputRef) (es : List Entry) (j : ℕ) (k : OutputRef) (o : Option Output) (u : IsDistinct ghosts.eq (keys_of es))
    (there : slice_get es j ≡ Some (k, o)) (key : Some k ≡ lookup_key (ghosts.eq r) es) where
  named_place : (i : ℕ) → (is_at (nat_cmp j) i && p (k, o)) ≡ passes_at (λ x. same_ref x.0 r && p x) es i
  named_place =
      found_place p r es j (k, o) (subst (λ e. IsDistinct e (keys_of es)) eq_same u) there
      (sym (ap (λ e. e r k) eq_same) ∙ lookup_key_passes (ghosts.eq r) es k (sym key))

  pub place_passes : p (k, o) ≡ true → (i : ℕ) → is_at (nat_cmp j) i ≡ passes_at (λ x. same_ref x.0 r && p x) es i
  place_passes h i = sym (and_one (is_at (nat_cmp j) i)) ∙ ap (λ b. is_at (nat_cmp j) i && b) (sym h) ∙ named_place i

  pub place_fails : p (k, o) ≡ false → (i : ℕ) → false ≡ passes_at (λ x. same_ref x.0 r && p x) es i
  place_fails h i = sym (and_none (is_at (nat_cmp j) i)) ∙ ap (λ b. is_at (nat_cmp j) i && b) (sym h) ∙ named_place i

pub place_of_none : (p : Entry → Bool) (r : OutputRef) (es : List Entry) → None ≡ lookup (ghosts.eq r) es → (i : ℕ) → false ≡ passes_at (λ x. same_ref x.0 r && p x) es i
place_of_none p r es h = no_place p r es (sym (h ∙ ap (λ e. lookup (e r) es) eq_same))

-- ---- references, one after another

pub next_named : (p : Entry → Bool) (rs : List OutputRef) (j : ℕ) (default : OutputRef) (es : List Entry) (i : ℕ) (before after : Bool) → j < length rs →
    after ≡ (passes_at (λ e. same_ref e.0 (get_or rs j default) && p e) es i || before) →
    (passes_at (λ e. is_among (drop j rs) e.0 && p e) es i || before) ≡ (passes_at (λ e. is_among (drop (j + 1) rs) e.0 && p e) es i || after)
next_named p rs j default es i before after l h =
    let rest = drop (j + 1) rs in
    let r = get_or rs j default in
    let d : drop j rs ≡ r ∷ rest = drop_more rs j default l in
    step (passes_at (λ x. is_among (drop j rs) x.0 && p x) es i) (passes_at (λ x. is_among rest x.0 && p x) es i) (passes_at (λ x. same_ref x.0 r && p x) es i) before after
    (passes_or (λ x. is_among (drop j rs) x.0 && p x) (λ x. same_ref x.0 r && p x) (λ x. is_among rest x.0 && p x)
    (λ x. ap (λ (l : List OutputRef). is_among l x.0 && p x) d ∙ or_and (same_ref x.0 r) (is_among rest x.0) (p x)) (slice_get es i))
    h

-- none is left
pub none_named : (p : Entry → Bool) (o : Option Entry) (b : Bool) → (passes (λ e. is_among [] e.0 && p e) o || b) ≡ b
none_named p None b = refl
none_named p (Some e) b = refl

-- ---- listed under a name

-- what an entry has is found by its reference
there_at : (es : List Entry) (i : ℕ) (e : Entry) → IsDistinct same_ref (keys_of es) → slice_get es i ≡ Some e → lookup (same_ref e.0) es ≡ Some e.1
there_at [] i e u at = cc
there_at (x ∷ xs) zero e u at =
    ap (λ (y : Entry). cond (same_ref e.0 y.0) (Some y.1) (lookup (same_ref e.0) xs)) (same_some x e at)
    ∙ ap (λ b. cond b (Some e.1) (lookup (same_ref e.0) xs)) (same_ref-refl e.0)
there_at (x ∷ xs) (suc i) e u at =
    ap (λ b. cond b (Some x.1) (lookup (same_ref e.0) xs)) (flips e.0 x.0 ∙ apart_at x.0 xs i e (IsDistinct-head same_ref x.0 (keys_of xs) u) at)
    ∙ there_at xs i e (IsDistinct-tail same_ref x.0 (keys_of xs) u) at

-- all that is under the lock of a name is among the references listed there
pub all_named : {S : Type 0} (m : List (LockName × IndexSet OutputRef S)) (n : LockName) (leaving : List OutputRef) (es : List Entry) (i : ℕ) → IsDistinct ghosts.eq (keys_of es) → AreListed m (live es) →
    passes_at (λ e. is_listed m n e.0 && is_shown (is_named n) leaving e) es i ≡ passes_at (is_shown (is_named n) leaving) es i
all_named m n leaving es i u h = by (slice_get es i) refl
  where
    distinct : IsDistinct same_ref (keys_of es)
    distinct = subst (λ q. IsDistinct q (keys_of es)) eq_same u

    twice : (o : Option Output) (s : Bool) → is_under n o && (is_asked (is_named n) o && s) ≡ is_asked (is_named n) o && s
    twice None s = refl
    twice (Some o) s = same (is_named n o.lock)
      where
        same : (b : Bool) → b && (b && s) ≡ b && s
        same true = refl
        same false = refl

    by : (o : Option Entry) → slice_get es i ≡ o → passes (λ e. is_listed m n e.0 && is_shown (is_named n) leaving e) o ≡ passes (is_shown (is_named n) leaving) o
    by None at = refl
    by (Some e) at =
        ap (λ b. b && is_shown (is_named n) leaving e) (h n e.0 ∙ ap (is_under n) (lookup_live e.0 es distinct ∙ ap inside (there_at es i e distinct at)))
        ∙ twice e.1 (not (is_among leaving e.0))

-- ---- locks, one after another

shown_or : (a b c : Lock → Bool) (leaving : List OutputRef) → ((l : Lock) → a l ≡ (b l || c l)) → (e : Entry) → is_shown a leaving e ≡ (is_shown b leaving e || is_shown c leaving e)
shown_or a b c leaving h e = by e.1
  where
    stays : Bool
    stays = not (is_among leaving e.0)

    by : (o : Option Output) → is_asked a o && stays ≡ ((is_asked b o && stays) || (is_asked c o && stays))
    by None = refl
    by (Some o) = ap (λ x. x && stays) (h o.lock) ∙ or_and (b o.lock) (c o.lock) stays

-- asked for: all, one of them, and those that are left
next_asked : (all one left : Lock → Bool) (leaving : List OutputRef) (es : List Entry) (i : ℕ) (before after : Bool) → ((l : Lock) → all l ≡ (one l || left l)) →
    after ≡ (passes_at (is_shown one leaving) es i || before) →
    (passes_at (is_shown all leaving) es i || before) ≡ (passes_at (is_shown left leaving) es i || after)
next_asked all one left leaving es i before after h k =
    step (passes_at (is_shown all leaving) es i) (passes_at (is_shown left leaving) es i) (passes_at (is_shown one leaving) es i) before after
    (passes_or (is_shown all leaving) (is_shown one leaving) (is_shown left leaving) (shown_or all one left leaving h) (slice_get es i))
    k

none_asked : (a : Lock → Bool) (leaving : List OutputRef) → ((l : Lock) → a l ≡ false) → (o : Option Entry) (b : Bool) → (passes (is_shown a leaving) o || b) ≡ b
none_asked a leaving h None b = refl
none_asked a leaving h (Some e) b = ap (λ x. x || b) (by e.1)
  where
    by : (o : Option Output) → is_asked a o && not (is_among leaving e.0) ≡ false
    by None = refl
    by (Some o) = ap (λ x. x && not (is_among leaving e.0)) (h o.lock)

-- of addresses

first_key : (k : List ℕ) (ks : List (List ℕ)) (l : Lock) → is_key_of (k ∷ ks) l ≡ (is_named (Address k) l || is_key_of ks l)
first_key k ks (Key a) = refl
first_key k ks (Payout c r) = refl
first_key k ks (Contract s d) = refl

no_key : (l : Lock) → is_key_of [] l ≡ false
no_key (Key a) = refl
no_key (Payout c r) = refl
no_key (Contract s d) = refl

pub next_key : (leaving : List OutputRef) (es : List Entry) (ks : List (List ℕ)) (j : ℕ) (k : List ℕ) (i : ℕ) (before after : Bool) → j < length ks → k ≡ get_or ks j k →
    after ≡ (passes_at (is_shown (is_named (Address k)) leaving) es i || before) →
    (passes_at (is_shown (is_key_of (drop j ks)) leaving) es i || before) ≡ (passes_at (is_shown (is_key_of (drop (j + 1) ks)) leaving) es i || after)
next_key leaving es ks j k i before after l e h =
    let rest = drop (j + 1) ks in
    let d : drop j ks ≡ k ∷ rest = drop_more ks j k l ∙ ap (λ (x : List ℕ). x ∷ rest) (sym e) in
    ap (λ (l : List (List ℕ)). passes_at (is_shown (is_key_of l) leaving) es i || before) d
    ∙ next_asked (is_key_of (k ∷ rest)) (is_named (Address k)) (is_key_of rest) leaving es i before after (first_key k rest) h

pub no_key_left : (leaving : List OutputRef) (o : Option Entry) (b : Bool) → (passes (is_shown (is_key_of []) leaving) o || b) ≡ b
no_key_left leaving o b = none_asked (is_key_of []) leaving no_key o b

-- of payouts

first_payout : (p : PayoutLock) (ps : List PayoutLock) (l : Lock) → is_payout_of (p ∷ ps) l ≡ (is_named (Role p.currency p.role) l || is_payout_of ps l)
first_payout p ps (Key a) = refl
first_payout p ps (Payout c r) = refl
first_payout p ps (Contract s d) = refl

no_payout : (l : Lock) → is_payout_of [] l ≡ false
no_payout (Key a) = refl
no_payout (Payout c r) = refl
no_payout (Contract s d) = refl

pub next_payout : (leaving : List OutputRef) (es : List Entry) (ps : List PayoutLock) (j : ℕ) (p : PayoutLock) (i : ℕ) (before after : Bool) → j < length ps → p ≡ get_or ps j p →
    after ≡ (passes_at (is_shown (is_named (Role p.currency p.role)) leaving) es i || before) →
    (passes_at (is_shown (is_payout_of (drop j ps)) leaving) es i || before) ≡ (passes_at (is_shown (is_payout_of (drop (j + 1) ps)) leaving) es i || after)
next_payout leaving es ps j p i before after l e h =
    let rest = drop (j + 1) ps in
    let d : drop j ps ≡ p ∷ rest = drop_more ps j p l ∙ ap (λ (x : PayoutLock). x ∷ rest) (sym e) in
    ap (λ (l : List PayoutLock). passes_at (is_shown (is_payout_of l) leaving) es i || before) d
    ∙ next_asked (is_payout_of (p ∷ rest)) (is_named (Role p.currency p.role)) (is_payout_of rest) leaving es i before after (first_payout p rest) h

pub no_payout_left : (leaving : List OutputRef) (o : Option Entry) (b : Bool) → (passes (is_shown (is_payout_of []) leaving) o || b) ≡ b
no_payout_left leaving o b = none_asked (is_payout_of []) leaving no_payout o b
