-- Names of locks, and references listed under them.
use Rattle.std.proofs.Common.{◌≡◌, Bool, true, false, ◌&&◌, ◌||◌, not, cond, filter, List, [], ◌∷◌, ◌++◌, refl, sym, ◌∙◌, ap, subst, Option, Some, None, Result, Ok, Err}
use Rattle.std.specs.Prelude.{IsOk, OnOk}
use Rattle.std.specs.List.{list_any}
use Rattle.std.specs.Map.{lookup}
use Rattle.std.specs.Cmp.Lexicographic.{bytes_decides}
use Rattle.std.proofs.lemmas.List.Elements.{filter-append}
use Rattle.std.proofs.lemmas.Map.Entries.{lookup-filter-keys}
use Rattle.ledger_spec.specs.EutxoTypes.declared.output.Output.{Output}
use Rattle.ledger_spec.specs.EutxoTypes.declared.output_ref.OutputRef.{OutputRef}
use Rattle.ledger_spec.specs.EutxoTypes.Parts.{same_bytes, same_ref}
use Rattle.indexmap.specs.IndexSet.{IndexSet}
use Rattle.ledger_spec.specs.EutxoTypes.contracts.output_ref.OutputRefPartialEq.TheImpl.{ghosts as of_refs}
use Rattle.ledger_spec.proofs.FromLedgerLaws.PlainLaws.{and_true, both, no_more}
use Rattle.ledger_spec.proofs.FromLedgerLaws.ReferenceLaws.{itself, same_ref-refl, same_ref_so, lookup_front, lookup_back}
use Rattle.chain_index.specs.contracts.lock_name.LockNamePartialEq.TheImpl.{ghosts}
use Rattle.chain_index.specs.declared.lock_name.LockName.{LockName}
use Rattle.chain_index.specs.declared.lock_name.LockName.TheVariants.{Address, Role}
use Rattle.chain_index.specs.Contents.{is_among}
use Rattle.chain_index.specs.HolesSupport.{live, known, with_key}
use Rattle.chain_index.specs.LocksSupport.{name_in, name_under, same_name, is_name, is_under, refs_in, is_listed, AreListed, ListsMore, ListsLess}
use Rattle.chain_index.proofs.LiveLemmas.{absent_lookup, live_append, none_live, kept_without}
use Rattle.chain_index.proofs.RefLemmas.{eq_same, flips, among_with, and_none, and_one, or_none}

-- ---- names

-- the code's equality is that of the definitions
name_is : (a b : LockName) → ghosts.eq a b ≡ same_name a b
name_is (Address a) (Address b) = refl
name_is (Role c r) (Role d s) = refl
name_is (Address a) (Role d s) = refl
name_is (Role c r) (Address b) = refl

pub name_same : ghosts.eq ≡ same_name
name_same = λ i a b. name_is a b i

pub same_name_so : (a b : LockName) → same_name a b ≡ true → a ≡ b
same_name_so (Address a) (Address b) h = ap (λ (x : List _). Address x) ((bytes_decides a b).0 h)
same_name_so (Role c r) (Role d s) h =
    let p = and_true (same_bytes c d) (same_bytes r s) h in
    let x = (bytes_decides c d).0 p.0 in
    let y = (bytes_decides r s).0 p.1 in
    λ i. Role (x i) (y i)
same_name_so (Address a) (Role d s) h = cc
same_name_so (Role c r) (Address b) h = cc

pub same_name-refl : (a : LockName) → same_name a a ≡ true
same_name-refl (Address a) = itself a
same_name-refl (Role c r) = both (same_bytes c c) (same_bytes r r) (itself c) (itself r)

name_flips : (a b : LockName) → same_name a b ≡ same_name b a
name_flips a b = by (same_name a b) (same_name b a) refl refl
  where
    by : (x y : Bool) → same_name a b ≡ x → same_name b a ≡ y → x ≡ y
    by true true p q = refl
    by false false p q = refl
    by true false p q = sym (subst (λ (c : LockName). same_name c a ≡ true) (same_name_so a b p) (same_name-refl a)) ∙ q
    by false true p q = sym p ∙ subst (λ (c : LockName). same_name c b ≡ true) (same_name_so b a q) (same_name-refl b)

none_some : {A : Type 0} {x : A} → ◌≡◌ {A = Option A} None (Some x) → ⊥
none_some e = cc

-- ---- references under names

abbrev Kept : Type 0 → Type 0
Kept S = List (LockName × IndexSet OutputRef S)

abbrev Entries : Type 0
Entries = List (OutputRef × Option Output)

-- what is under a name has changed, and under no other
module _ {S : Type 0} (old new : Kept S) (name : LockName) (w : Option (IndexSet OutputRef S))
    (h : (q : LockName) → lookup (ghosts.eq q) new ≡ cond (ghosts.eq name q) w (lookup (ghosts.eq q) old)) where
  changed : (q : LockName) → lookup (same_name q) new ≡ cond (same_name name q) w (lookup (same_name q) old)
  changed = subst (λ (e : LockName → LockName → Bool). (q : LockName) → lookup (e q) new ≡ cond (e name q) w (lookup (e q) old)) name_same h

  at : (n : LockName) (r : OutputRef) (b : Bool) → same_name name n ≡ b → is_listed new n r ≡ is_among (refs_in (cond b w (lookup (same_name n) old))) r
  at n r b e = ap (λ o. is_among (refs_in o) r) (changed n ∙ ap (λ b. cond b w (lookup (same_name n) old)) e)

  -- where a function tells what is listed under it, of what was, it tells so of each name
  pub told_under : (f : Bool → Bool → Bool) (q : OutputRef) → ((b : Bool) → b ≡ f false b) → ((r : OutputRef) → is_among (refs_in w) r ≡ f (same_ref q r) (is_listed old name r)) →
      (n : LockName) (r : OutputRef) → is_listed new n r ≡ f (same_name n name && same_ref q r) (is_listed old n r)
  told_under f q none h n r = by (same_name name n) refl
    where
      own : f (same_ref q r) (is_listed old name r) ≡ f (same_name name name && same_ref q r) (is_listed old name r)
      own = sym (ap (λ b. f (b && same_ref q r) (is_listed old name r)) (same_name-refl name))

      by : (b : Bool) → same_name name n ≡ b → is_listed new n r ≡ f (same_name n name && same_ref q r) (is_listed old n r)
      by true e =
          at n r true e
          ∙ h r
          ∙ subst (λ (m : LockName). f (same_ref q r) (is_listed old name r) ≡ f (same_name m name && same_ref q r) (is_listed old m r)) (same_name_so name n e) own
      by false e =
          at n r false e
          ∙ none (is_listed old n r)
          ∙ sym (ap (λ b. f (b && same_ref q r) (is_listed old n r)) (name_flips n name ∙ e))

-- ---- one set of references

-- one goes
pub gone : (q : OutputRef) (old new : List OutputRef) → ((r : OutputRef) → list_any (of_refs.eq r) new ≡ cond (of_refs.eq q r) false (list_any (of_refs.eq r) old)) →
    (r : OutputRef) → is_among new r ≡ (not (same_ref q r) && is_among old r)
gone q old new h r =
    subst (λ (e : OutputRef → OutputRef → Bool). (s : OutputRef) → list_any (e s) new ≡ cond (e q s) false (list_any (e s) old)) eq_same h r ∙ by (same_ref q r)
  where
    by : (b : Bool) → cond b false (is_among old r) ≡ (not b && is_among old r)
    by true = refl
    by false = refl

-- one is noted
pub noted : (q : OutputRef) (old new : List OutputRef) → new ≡ with_key old q → (r : OutputRef) → is_among new r ≡ (same_ref q r || is_among old r)
noted q old new e r = ap (λ rs. is_among rs r) e ∙ among_with old q r

-- ---- listed outputs

-- what succeeds does as it says of success
pub ok_so : {T E P : Type 0} (r : Result T E) → IsOk r → OnOk r P → P
ok_so (Ok v) i h = h
ok_so (Err e) i h = cc

-- one output more, whose reference no other has
pub listed_more : {S : Type 0} (old new : Kept S) (es fs : Entries) (r : OutputRef) (o : Output) → fs ≡ es ++ (r, Some o) ∷ [] → is_among (known es) r ≡ false →
    ListsMore (name_in o.lock) r old new → AreListed old (live es) → AreListed new (live fs)
listed_more old new es fs r o e none k h n q =
    k n q
    ∙ ap (λ b. (is_name n (name_in o.lock) && same_ref r q) || b) (h n q)
    ∙ by (same_ref r q) refl (lookup (same_ref q) (live es)) refl
    ∙ ap (λ l. is_under n (lookup (same_ref q) l)) (sym (ap live e ∙ live_append es ((r, Some o) ∷ [])))
  where
    here : (b : Bool) → same_ref q r ≡ b → lookup (same_ref q) (live es) ≡ None → lookup (same_ref q) (live es ++ (r, o) ∷ []) ≡ cond b (Some o) None
    here b p m = lookup_back (same_ref q) (live es) ((r, o) ∷ []) m ∙ ap (λ b. cond b (Some o) None) p

    absent : same_ref r q ≡ true → lookup (same_ref q) (live es) ≡ None
    absent p = subst (λ (s : OutputRef). lookup (same_ref s) (live es) ≡ None) (same_ref_so r q p) (none_live r es (absent_lookup r es none))

    by : (b : Bool) → same_ref r q ≡ b → (x : Option Output) → lookup (same_ref q) (live es) ≡ x →
        ((is_name n (name_in o.lock) && b) || is_under n x) ≡ is_under n (lookup (same_ref q) (live es ++ (r, o) ∷ []))
    by true p (Some v) at = absurd (none_some (sym (absent p) ∙ at))
    by true p None at = or_none (is_name n (name_in o.lock) && true) ∙ and_one (is_name n (name_in o.lock)) ∙ sym (ap (is_under n) (here true (flips q r ∙ p) at))
    by false p None at = ap (λ b. b || false) (and_none (is_name n (name_in o.lock))) ∙ sym (ap (is_under n) (here false (flips q r ∙ p) at))
    by false p (Some v) at = ap (λ b. b || is_name n (name_in v.lock)) (and_none (is_name n (name_in o.lock))) ∙ sym (ap (is_under n) (lookup_front (same_ref q) (live es) ((r, o) ∷ []) v at))

-- without what a reference names
pub listed_less : {S : Type 0} (old new : Kept S) (es fs : List (OutputRef × Output)) (r : OutputRef) (o : Option Output) → fs ≡ filter (λ e. not (same_ref r e.0)) es → o ≡ lookup (same_ref r) es →
    ListsLess (name_under o) r old new → AreListed old es → AreListed new fs
listed_less old new es fs r o e there k h n q =
    k n q
    ∙ ap (λ b. not (is_under n o && same_ref r q) && b) (h n q)
    ∙ by (same_ref r q) refl
    ∙ sym (ap (is_under n) (ap (lookup (same_ref q)) e ∙ lookup-filter-keys (same_ref q) (λ s. not (same_ref r s)) (not (same_ref r q)) (λ s p. ap (λ (x : OutputRef). not (same_ref r x)) (sym (same_ref_so q s p))) es))
  where
    never : (b : Bool) → (not (b && true) && b) ≡ false
    never true = refl
    never false = refl

    by : (b : Bool) → same_ref r q ≡ b → (not (is_under n o && b) && is_under n (lookup (same_ref q) es)) ≡ is_under n (cond (not b) (lookup (same_ref q) es) None)
    by true p =
        ap (λ x. not (is_under n o && true) && is_under n x) (ap (λ (s : OutputRef). lookup (same_ref s) es) (sym (same_ref_so r q p)) ∙ sym there)
        ∙ never (is_under n o)
    by false p = ap (λ b. not b && is_under n (lookup (same_ref q) es)) (and_none (is_under n o))

-- without the last entry, whose reference no other has
pub listed_before : {S : Type 0} (old new : Kept S) (es fs : Entries) (r : OutputRef) (o : Option Output) → fs ≡ es ++ (r, o) ∷ [] → lookup (of_refs.eq r) es ≡ None →
    ListsLess (name_under o) r old new → AreListed old (live fs) → AreListed new (live es)
listed_before old new es fs r o e none k h = listed_less old new (live fs) (live es) r o (sym left) (sym there) k h
  where
    absent : lookup (same_ref r) es ≡ None
    absent = sym (ap (λ q. lookup (q r) es) eq_same) ∙ none

    split : live fs ≡ live es ++ live ((r, o) ∷ [])
    split = ap live e ∙ live_append es ((r, o) ∷ [])

    own : (x : Option Output) → lookup (same_ref r) (live ((r, x) ∷ [])) ≡ x
    own None = refl
    own (Some v) = ap (λ b. cond b (Some v) None) (same_ref-refl r)

    goes : (x : Option Output) → filter (λ f. not (same_ref r f.0)) (live ((r, x) ∷ [])) ≡ []
    goes None = refl
    goes (Some v) = ap (λ b. cond (not b) ((r, v) ∷ []) []) (same_ref-refl r)

    there : lookup (same_ref r) (live fs) ≡ o
    there = ap (lookup (same_ref r)) split ∙ lookup_back (same_ref r) (live es) (live ((r, o) ∷ [])) (none_live r es absent) ∙ own o

    left : filter (λ f. not (same_ref r f.0)) (live fs) ≡ live es
    left =
        ap (filter (λ f. not (same_ref r f.0))) split
        ∙ filter-append (λ f. not (same_ref r f.0)) (live es) (live ((r, o) ∷ []))
        ∙ (λ i. kept_without r es absent i ++ goes o i)
        ∙ no_more (live es)
